-- Lexemes that are just what is wanted, with good numbers and few enough parts.
use Rattle.std.specs.Prelude.{◌≡◌, ℕ, ◌-◌, Bool, true, false, cond, ◌&&◌, ◌||◌, List, [], ◌∷◌, Some, None, ◌==◌}
use Rattle.text.specs.Tokens.{Lexeme}
use Rattle.grammar.specs.Forms.{plain}
use Rattle.grammar.specs.Wants.{Want, form, head, name, num, range, axis, shut, items, item, parts, more, part, step, bad_number}

-- nothing is wanted
abbrev pub is_done : List Want → Bool
is_done [] = true
is_done (x ∷ xs) = false

-- a part is wanted, its bracket read
abbrev pub is_part : List Want → Bool
is_part [] = false
is_part (form k ∷ xs) = false
is_part (head k ∷ xs) = false
is_part (name n ∷ xs) = false
is_part (num low high ∷ xs) = false
is_part (range ∷ xs) = false
is_part (axis ∷ xs) = false
is_part (shut ∷ xs) = false
is_part (items k ∷ xs) = false
is_part (item k ∷ xs) = false
is_part (parts ∷ xs) = false
is_part (more ∷ xs) = false
is_part (part ∷ xs) = true

-- the lexemes are just what is wanted, each number is in its range, and there are at most k parts
abbrev pub clean : ℕ → List Want → List Lexeme → Bool
clean k xs [] = is_done xs
clean k xs (t ∷ ts) =
    cond (bad_number xs t || (is_part xs && k == 0)) false
    (elim (step xs t) [ None ↦ false | Some ys ↦ clean (cond (is_part xs) (k - 1) k) ys ts ])

-- whatever comes after it, x is not what these lexemes begin with
abbrev pub Dead : Want → List (Lexeme × ℕ) → Type 0
Dead x us = (k : ℕ) (xs : List Want) → clean k (x ∷ xs) (plain us) ≡ false
