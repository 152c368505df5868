-- The verdict on a lot file.
use Rattle.std.specs.Prelude.{◌≡◌, ℕ, ◌+◌, ◌≤◌, Bool, true, false, cond, not, ◌&&◌, List, [], ◌∷◌, ◌++◌, length, Some, None, Option, nat_le, nat_lt, slice_index}
use Rattle.geometry.specs.Limits.{site}
use Rattle.text.specs.Findings.{or_else}
use Rattle.text.specs.Lines.{file_limit, lines_of}
use Rattle.text.specs.Numbers.{value_from}
use Rattle.text.specs.Tokens.{Lexeme, opening, closing, number, word, tokens_of}
use Rattle.text.specs.declared.placed.Placed.{Placed}
use Rattle.grammar.specs.Forms.{Form, material, rule, lot}
use Rattle.grammar.specs.declared.state.FileKind.TheVariants.{Lots}
use Rattle.judge.specs.Files.{some, column_of, whole_file, verdict_from, left_after, InOrder}
use Rattle.judge.specs.Judged.{found, judged}
use Rattle.judge.specs.declared.faults.Fault.{Fault}
use Rattle.judge.specs.declared.faults.Fault.TheVariants.{FileTooLong, TooMany, OutOfSite, SharesCube, NoLot}
use Rattle.lots.specs.Lists.{Box}
use Rattle.lots.specs.Shares.{shares_any}

-- the most lots
abbrev pub most_lots : ℕ
most_lots = 16

-- the values of the numbers of a line, from left to right
abbrev pub numbers_in : List (Lexeme × ℕ) → List ℕ
numbers_in [] = []
numbers_in ((opening, c) ∷ ps) = numbers_in ps
numbers_in ((closing, c) ∷ ps) = numbers_in ps
numbers_in ((number w, c) ∷ ps) = value_from 0 w ∷ numbers_in ps
numbers_in ((word w, c) ∷ ps) = numbers_in ps

-- six numbers as a box
abbrev pub box_from : List ℕ → Box
box_from ns = record { px = slice_index ns 0; py = slice_index ns 1; pz = slice_index ns 2; sx = slice_index ns 3; sy = slice_index ns 4; sz = slice_index ns 5 }

-- the box of a lot's line
abbrev pub box_in : List ℕ → Box
box_in l = box_from (numbers_in (tokens_of l))

-- the boxes of the lots so far, after one line more
abbrev pub after : List Box → List ℕ → List Box
after bs l = cond (some (tokens_of l)) (bs ++ box_in l ∷ []) bs

-- a box stays inside the site
abbrev pub inside_site : Box → Bool
inside_site b = nat_le (b.px + b.sx) site && (nat_le (b.py + b.sy) site && nat_le (b.pz + b.sz) site)

-- column 1 where a test holds
abbrev pub at_start : Bool → Option ℕ
at_start t = cond t (Some 1) None

-- what is wrong with the box of a lot in line n after these: it reaches out of the site, or shares a cube with one of them
abbrev pub box_fault : List Box → ℕ → Box → Option (Placed Fault)
box_fault bs n b = or_else (found OutOfSite n (at_start (not (inside_site b)))) (found SharesCube n (at_start (shares_any b bs)))

-- the opening bracket of a lot too many
abbrev pub too_many : List Box → List ℕ → Option ℕ
too_many bs l = cond (nat_le most_lots (length bs)) (column_of 0 (tokens_of l)) None

-- what line n does wrong after lots with these boxes: the fault with the least number; a blank line has no box
abbrev pub line_fault : List Box → ℕ → List ℕ → Option (Placed Fault)
line_fault bs n l =
    or_else (judged Lots n l) (or_else (found TooMany n (too_many bs l)) (cond (some (tokens_of l)) (box_fault bs n (box_in l)) None))

-- a file without a lot
abbrev pub no_lot : List Box → Option (Placed Fault)
no_lot bs = cond (some bs) None (whole_file NoLot)

-- the verdict on a lot file
abbrev pub verdict : List ℕ → Option (Placed Fault)
verdict xs =
    cond (nat_lt file_limit (length xs)) (whole_file FileTooLong)
    (or_else (verdict_from line_fault after [] 1 (lines_of xs)) (no_lot (left_after line_fault after [] (lines_of xs))))

-- the box of a lot
abbrev pub box_said : Form → Box
box_said (material w) = box_from []
box_said (rule w gs b) = box_from []
box_said (lot px py pz sx sy sz w) =
    box_from (value_from 0 px ∷ value_from 0 py ∷ value_from 0 pz ∷ value_from 0 sx ∷ value_from 0 sy ∷ value_from 0 sz ∷ [])

-- a lot that may come after lots with these boxes
pub record Good (bs : List Box) (f : Form) : Type 0 where
  pub few : length bs + 1 ≤ most_lots
  pub inside : inside_site (box_said f) ≡ true
  pub apart : shares_any (box_said f) bs ≡ false

-- the boxes with one lot more
abbrev pub added : List Box → Form → List Box
added bs f = bs ++ box_said f ∷ []

-- a lot file in order, in plain words: its lines are, and there is a lot
pub record LotsInOrder (xs : List ℕ) : Type 0 where
  pub short : length xs ≤ file_limit
  pub lines : InOrder Lots Good added [] (lines_of xs)
  pub lot : some (left_after line_fault after [] (lines_of xs)) ≡ true
