-- Lines that are read, one after the other, into what grows by them.
use Rattle.std.specs.Prelude.{◌≡◌, ℕ, ◌+◌, cond, List, ◌∷◌, length, Some, None, Option, Ok, Err, Result, nat_lt}
use Rattle.text.specs.Lines.{file_limit, lines_of, lines_left}
use Rattle.text.specs.declared.lines.Lines.{Lines}
use Rattle.text.specs.declared.placed.Placed.{Placed}
use Rattle.judge.specs.Files.{whole_file, Leads}
use Rattle.judge.specs.declared.faults.Fault.{Fault}
use Rattle.judge.specs.declared.faults.Fault.TheVariants.{FileTooLong}

module _ {P : Type 0} (verdict : P → ℕ → List (List ℕ) → Option (Placed Fault)) (Grown : ℕ → List ℕ → P → P → Type 0)
    (Fits : P → Type 0) where
  -- a line is judged; it is added, and later lines are judged after it, or it is refused, and nothing is altered
  abbrev pub Taken : ℕ → List ℕ → P → P → Result Unit (Placed Fault) → Type 0
  Taken n l p q (Ok u) = (Grown n l p q) × (Fits q) × ((ls : List (List ℕ)) → verdict p n (l ∷ ls) ≡ verdict q (n + 1) ls)
  Taken n l p q (Err f) = ((ls : List (List ℕ)) → verdict p n (l ∷ ls) ≡ Some f) × (q ≡ p)

module _ {P : Type 0} (verdict : P → ℕ → List (List ℕ) → Option (Placed Fault)) (Grown : ℕ → List ℕ → P → P → Type 0)
    (Fits : P → Type 0) (empty : P) where
  -- the lines that are to come after p were read; or one was refused, and what is read is empty
  abbrev pub LinesTaken : Lines → P → P → Result Unit (Placed Fault) → Type 0
  LinesTaken s p q (Ok u) = (verdict p (s.before + 1) (lines_left s) ≡ None) × (Leads Grown (s.before + 1) (lines_left s) p q) × (Fits q)
  LinesTaken s p q (Err f) = (verdict p (s.before + 1) (lines_left s) ≡ Some f) × (q ≡ empty)

  -- the verdict on a file that may be too long
  abbrev pub file_verdict : List ℕ → Option (Placed Fault)
  file_verdict xs = cond (nat_lt file_limit (length xs)) (whole_file FileTooLong) (verdict empty 1 (lines_of xs))

  -- a file is taken, line by line; or it is refused, and what is read is empty
  abbrev pub FileTaken : List ℕ → P → Result Unit (Placed Fault) → Type 0
  FileTaken xs q (Ok u) = (file_verdict xs ≡ None) × (Leads Grown 1 (lines_of xs) empty q) × (Fits q)
  FileTaken xs q (Err f) = (file_verdict xs ≡ Some f) × (q ≡ empty)
