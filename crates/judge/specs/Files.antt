-- The verdict on a whole file.
use Rattle.std.specs.Prelude.{◌≡◌, ℕ, ◌+◌, ◌-◌, ◌<◌, ◌≤◌, Bool, true, false, cond, ◌⊎◌, List, [], ◌∷◌, length, Some, None, Option, nat_lt, slice_index}
use Rattle.text.specs.Bytes.{allowed}
use Rattle.text.specs.Findings.{or_else, line_limit}
use Rattle.text.specs.Lines.{is_blank}
use Rattle.text.specs.Tokens.{Lexeme, tokens_of}
use Rattle.text.specs.declared.placed.Placed.{Placed}
use Rattle.grammar.specs.Forms.{Form, Fits, spell, plain}
use Rattle.grammar.specs.Orders.{good_numbers, good_names}
use Rattle.grammar.specs.declared.state.FileKind.{FileKind}
use Rattle.judge.specs.declared.faults.Fault.{Fault}

-- a list has an element
abbrev pub some : {X : Type 0} → List X → Bool
some [] = false
some (x ∷ xs) = true

-- the column of the k-th of some lexemes, from 0
abbrev pub column_of : ℕ → List (Lexeme × ℕ) → Option ℕ
column_of k [] = None
column_of k (p ∷ ps) = cond (nat_lt 0 k) (column_of (k - 1) ps) (Some p.1)

-- a fault of the file as a whole stands at line 0 and column 0
abbrev pub whole_file : Fault → Option (Placed Fault)
whole_file f = Some (record { value = f; line = 0; column = 0 })

-- lines are judged after what those before them left, by a state
module _ {S : Type 0} (judge : S → ℕ → List ℕ → Option (Placed Fault)) (after : S → List ℕ → S) where
  -- the verdict on lines from the n-th on is that of the first line that has a fault
  abbrev pub verdict_from : S → ℕ → List (List ℕ) → Option (Placed Fault)
  verdict_from s n [] = None
  verdict_from s n (l ∷ ls) = or_else (judge s n l) (verdict_from (after s l) (n + 1) ls)

  -- what all lines leave
  abbrev pub left_after : S → List (List ℕ) → S
  left_after s [] = s
  left_after s (l ∷ ls) = left_after (after s l) ls

-- what one line does to what is read, told by a relation
module _ {S : Type 0} (Grown : ℕ → List ℕ → S → S → Type 0) where
  -- lines from the n-th on lead from p to q, one after the other
  abbrev pub Leads : ℕ → List (List ℕ) → S → S → Type 0
  Leads n [] p q = q ≡ p
  Leads n (l ∷ ls) p q = (m : S) × (Grown n l p m) × Leads (n + 1) ls m q

-- a line spells the form, which may stand in the file and has its numbers and names in order
pub record Spells (k : FileKind) (l : List ℕ) (f : Form) : Type 0 where
  pub fits : Fits k f
  pub spelled : plain (tokens_of l) ≡ spell f
  pub numbers : good_numbers f ≡ true
  pub names : good_names f ≡ true

-- not too long, and with allowed bytes only
pub record Clean (l : List ℕ) : Type 0 where
  pub short : length l ≤ line_limit
  pub bytes : (i : ℕ) → i < length l → allowed (slice_index l i) ≡ true

module _ {S : Type 0} (k : FileKind) (Good : S → Form → Type 0) (added : S → Form → S) where
  -- in plain words: each line is clean, and blank or the spelling of a form in order that is good after those before it
  abbrev pub InOrder : S → List (List ℕ) → Type 0
  InOrder s [] = Unit {0}
  InOrder s (l ∷ ls) =
      (Clean l)
      × (((is_blank l ≡ true) × InOrder s ls) ⊎ ((f : Form) × (Spells k l f) × (Good s f) × InOrder (added s f) ls))
