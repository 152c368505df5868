-- What the lines of a rule file leave for those after them.
use Rattle.rules.specs.declared.rule_book.Book.{Book}
use Rattle.std.specs.Prelude.{ℕ, ◌+◌, Bool, true, false, cond, ◌&&◌, List, [], ◌∷◌, ◌++◌, map, length, nat_lt}
use Rattle.text.specs.Tokens.{Lexeme, opening, closing, number, word, tokens_of, spelled}
use Rattle.grammar.specs.Forms.{Form, material, rule, lot}
use Rattle.grammar.specs.Wants.{Want, form, head, name, num, range, axis, shut, items, item, parts, more, part}
use Rattle.grammar.specs.declared.state.FileKind.TheVariants.{Rules}
use Rattle.grammar.specs.declared.state.Naming.{Naming}
use Rattle.grammar.specs.declared.state.Naming.TheVariants.{Declared, Own, Material, Rule}
use Rattle.forms.specs.Met.{met}
use Rattle.forms.specs.Reads.{part_count}
use Rattle.forms.specs.Told.{bytes_of, guards_of}
use Rattle.forms.specs.declared.rule.RuleLine.{RuleLine}
use Rattle.judge.specs.Files.{some}

-- the names of the materials declared so far, the names of the rule lines, whether the last of them has a guard, and the
-- number of parts
pub record Before : Type 0 where
  pub materials : List (List ℕ)
  pub names : List (List ℕ)
  pub guarded : Bool
  pub parts : ℕ

-- before the first line
abbrev pub nothing : Before
nothing = record { materials = []; names = []; guarded = false; parts = 0 }

-- the last of a list passes the test
abbrev pub last_passes : {X : Type 0} → (X → Bool) → List X → Bool
last_passes p [] = false
last_passes p (x ∷ []) = p x
last_passes p (x ∷ y ∷ ys) = last_passes p (y ∷ ys)

-- the last rule line has a guard
abbrev pub last_guarded : List RuleLine → Bool
last_guarded rs = last_passes (λ r. nat_lt 0 (length (guards_of r))) rs

-- what a book leaves
abbrev pub left_by : Book → Before
left_by p = record {
  materials = map bytes_of p.materials;
  names = map bytes_of p.names;
  guarded = last_guarded p.lines;
  parts = p.parts;
}

-- a name that is wanted for the material that a line declares, or for the rule line itself
abbrev pub is_for : Bool → Bool → Naming → Bool
is_for d o Declared = d
is_for d o Own = o
is_for d o Material = false
is_for d o Rule = false

-- an opening bracket
abbrev pub is_opening : Lexeme → Bool
is_opening opening = true
is_opening closing = false
is_opening (number w) = false
is_opening (word w) = false

-- a test that looks for the LOW of a guard, for the opening bracket of a part, for a declared name
-- and for a rule line's own
abbrev pub looks : Bool → Bool → Bool → Bool → List Want → Lexeme → Bool
looks g p d o [] t = false
looks g p d o (form k ∷ xs) t = false
looks g p d o (head k ∷ xs) t = false
looks g p d o (name n ∷ xs) t = is_for d o n
looks g p d o (num low high ∷ xs) t = false
looks g p d o (range ∷ xs) t = g
looks g p d o (axis ∷ xs) t = false
looks g p d o (shut ∷ xs) t = false
looks g p d o (items k ∷ xs) t = false
looks g p d o (item k ∷ xs) t = false
looks g p d o (parts ∷ xs) t = p && is_opening t
looks g p d o (more ∷ xs) t = p && is_opening t
looks g p d o (part ∷ xs) t = false

-- what stands in a line of a rule file where the test holds
abbrev pub standing : (List Want → Lexeme → Bool) → List ℕ → List (Lexeme × ℕ)
standing test l = met test (form Rules ∷ []) (tokens_of l)

-- the LOWs of its guards
abbrev pub lows_in : List ℕ → List (Lexeme × ℕ)
lows_in l = standing (looks true false false false) l

-- the opening brackets of its parts
abbrev pub parts_in : List ℕ → List (Lexeme × ℕ)
parts_in l = standing (looks false true false false) l

-- the name that it declares
abbrev pub declared_in : List ℕ → List (Lexeme × ℕ)
declared_in l = standing (looks false false true false) l

-- its own name as a rule line
abbrev pub own_in : List ℕ → List (Lexeme × ℕ)
own_in l = standing (looks false false false true) l

-- their bytes
abbrev pub texts : List (Lexeme × ℕ) → List (List ℕ)
texts ps = map (λ p. spelled p.0) ps

-- what is left after one line more
abbrev pub after : Before → List ℕ → Before
after b l = record {
  materials = b.materials ++ texts (declared_in l);
  names = b.names ++ texts (own_in l);
  guarded = cond (some (own_in l)) (some (lows_in l)) b.guarded;
  parts = b.parts + length (parts_in l);
}

-- the same of a form
abbrev pub added : Before → Form → Before
added b (material w) = record {
  materials = b.materials ++ w ∷ [];
  names = b.names;
  guarded = b.guarded;
  parts = b.parts;
}
added b (rule w gs body) = record {
  materials = b.materials;
  names = b.names ++ w ∷ [];
  guarded = some gs;
  parts = b.parts + part_count body;
}
added b (lot px py pz sx sy sz w) = b
