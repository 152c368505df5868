-- What stands in a line, by what was wanted where it stands.
use Rattle.std.specs.Prelude.{ℕ, Bool, cond, List, [], ◌∷◌, is_some, Some, None}
use Rattle.text.specs.Tokens.{Lexeme, tokens_of}
use Rattle.grammar.specs.Wants.{Want, form, step, naming}
use Rattle.grammar.specs.declared.state.FileKind.{FileKind}

-- all lexemes, with their columns, at which a test on them and on what is wanted there holds, up to the first that does not fit
abbrev pub met : (List Want → Lexeme → Bool) → List Want → List (Lexeme × ℕ) → List (Lexeme × ℕ)
met test xs [] = []
met test xs (p ∷ ps) =
    cond (test xs p.0) (p ∷ elim (step xs p.0) [ None ↦ [] | Some ys ↦ met test ys ps ])
    (elim (step xs p.0) [ None ↦ [] | Some ys ↦ met test ys ps ])

-- a name is wanted
abbrev pub is_named : List Want → Lexeme → Bool
is_named xs t = is_some (naming xs)

-- the names of a line from left to right, with their columns
abbrev pub names_in : FileKind → List ℕ → List (Lexeme × ℕ)
names_in k l = met is_named (form k ∷ []) (tokens_of l)
