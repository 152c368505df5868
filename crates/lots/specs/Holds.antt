-- What a list of lots holds of the lines that were read into it.
use Rattle.std.specs.Prelude.{◌≡◌, ℕ, ◌+◌, ◌≤◌, true, false, ◌⊎◌, List, [], ◌∷◌, ◌++◌, map, length, Some, None, Option, Ok, Err, Result}
use Rattle.geometry.specs.Limits.{least}
use Rattle.geometry.specs.declared.cuboid.Cuboid.{Cuboid}
use Rattle.text.specs.Lines.{is_blank, lines_of}
use Rattle.text.specs.declared.placed.Placed.{Placed}
use Rattle.grammar.specs.declared.state.FileKind.TheVariants.{Lots as LotFile}
use Rattle.grammar.specs.Forms.{Form}
use Rattle.judge.specs.Files.{Spells, Leads, verdict_from}
use Rattle.judge.specs.declared.faults.Fault.{Fault}
use Rattle.forms.specs.Reads.{Says}
use Rattle.forms.specs.Told.{Name, lot_of}
use Rattle.forms.specs.declared.lot.LotLine.{LotLine}
use Rattle.lots.specs.Lists.{no_lots, Box, box_of, boxed}
use Rattle.lots.specs.Verdicts.{most_lots, box_in, inside_site, box_fault, line_fault, after}
use Rattle.lots.specs.declared.list.LotList.{LotList}

-- the boxes of the lots, as numbers
abbrev pub left_by : LotList → List Box
left_by p = map boxed p.lots

-- a corner and sizes as they are read
abbrev pub box_read : LotLine → Box
box_read r = record {
  px = r.corner.x.0;
  py = r.corner.y.0;
  pz = r.corner.z.0;
  sx = r.size.x.0;
  sy = r.size.y.0;
  sz = r.size.z.0;
}

-- a list with one lot more
abbrev pub with_lot : LotList → Cuboid → Name → LotList
with_lot p c n = record { lots = p.lots ++ record { cuboid = c; name = n } ∷ [] }

-- line n is a lot, which stands at the end of the list
pub record LotAdded (n : ℕ) (l : List ℕ) (p q : LotList) : Type 0 where
  pub lot : LotLine
  pub box : Cuboid
  pub says : Says LotFile n l (lot_of lot) (lot.name ∷ [])
  pub boxed : box_of box ≡ box_read lot
  pub grown : q ≡ with_lot p box lot.name

-- line n takes a list from p to q: it is blank, or a lot
abbrev pub Grown : ℕ → List ℕ → LotList → LotList → Type 0
Grown n l p q = ((is_blank l ≡ true) × (q ≡ p)) ⊎ LotAdded n l p q

-- what holds of a list while it is read
abbrev pub Fitting : LotList → Type 0
Fitting p = length p.lots ≤ most_lots

-- no size of a lot is below the least
abbrev pub Sized : LotLine → Type 0
Sized r = (least ≤ r.size.x.0) × (least ≤ r.size.y.0) × (least ≤ r.size.z.0)

-- the box of a lot that stays inside the site; or the lot does not
abbrev pub BoxMade : LotLine → Option Cuboid → Type 0
BoxMade r (Some c) = (inside_site (box_read r) ≡ true) × (box_of c ≡ box_read r)
BoxMade r None = inside_site (box_read r) ≡ false

-- a lot stands at the end of a list with room for it
abbrev pub Added : LotList → Cuboid → Name → LotList → Type 0
Added p c n q = length p.lots + 1 ≤ most_lots → q ≡ with_lot p c n

-- a lot is judged by its box and stands at the end of the list; or it is refused, and the list stays as it was
abbrev pub LotPlaced : ℕ → LotLine → LotList → LotList → Result Unit (Placed Fault) → Type 0
LotPlaced n r p q (Err f) = (box_fault (left_by p) n (box_read r) ≡ Some f) × (q ≡ p)
LotPlaced n r p q (Ok u) =
    (box_fault (left_by p) n (box_read r) ≡ None) × ((c : Cuboid) × (box_of c ≡ box_read r) × (Added p c r.name q))

-- the box of a lot's line is judged, and the lot stands at the end of the list; or it is refused, and the list stays as it was
abbrev pub LotTaken : ℕ → List ℕ → LotList → LotList → Result Unit (Placed Fault) → Type 0
LotTaken n l p q (Err f) = (box_fault (left_by p) n (box_in l) ≡ Some f) × (q ≡ p)
LotTaken n l p q (Ok u) =
    (f : Form) → Spells LotFile l f → length p.lots + 1 ≤ most_lots → (box_fault (left_by p) n (box_in l) ≡ None) × (LotAdded n l p q)

-- the verdict on lines from the n-th on after those lots
abbrev pub verdict_after : LotList → ℕ → List (List ℕ) → Option (Placed Fault)
verdict_after p = verdict_from line_fault after (left_by p)

-- a file is taken, and the list holds its lots; or it is refused, and the list is empty
abbrev pub FileTaken : List ℕ → LotList → Result Unit (Placed Fault) → Type 0
FileTaken xs q (Err f) = q ≡ no_lots
FileTaken xs q (Ok u) = Leads Grown 1 (lines_of xs) no_lots q
