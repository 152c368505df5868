-- The judgement on brackets as one pass with a stack; that it gives the same is proved.
use Rattle.std.specs.Prelude.{◌≡◌, ℕ, ◌+◌, cond, List, [], ◌∷◌, length, drop, Some, Ok, Err, Option, Result, ◌==◌, nat_lt}
use Rattle.stack.specs.Held.{top_of}
use Rattle.text.specs.Findings.{levels}

-- the bytes begin at column k, and st has the columns of the brackets that are open, the innermost first
abbrev pub scanned : ℕ → List ℕ → List ℕ → Option ℕ
scanned k st [] = top_of st
scanned k st (b ∷ bs) =
    cond (b == 40) (cond (nat_lt (length st) levels) (scanned (k + 1) (k ∷ st) bs) (Some k))
    (cond (b == 41) (cond (nat_lt 0 (length st)) (scanned (k + 1) (drop 1 st) bs) (Some k)) (scanned (k + 1) st bs))

-- one byte at column k: the open brackets st become st' and the line goes on, or the judgement is a column
abbrev pub Goes : ℕ → List ℕ → ℕ → List ℕ → Result (Unit {0}) ℕ → Type 0
Goes k st b st' (Ok u) = (bs : List ℕ) → scanned k st (b ∷ bs) ≡ scanned (k + 1) st' bs
Goes k st b st' (Err c) = (bs : List ℕ) → scanned k st (b ∷ bs) ≡ Some c
