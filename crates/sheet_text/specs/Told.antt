-- The texts of a sheet, a refused file and a block. `line_text` gives a line by its kind and its numbers.
use Rattle.std.specs.Prelude.{ℕ, List, [], ◌∷◌, ◌++◌}
use Rattle.geometry.specs.declared.block.Block.{Block}
use Rattle.geometry.specs.declared.cuboid.Cuboid.{Cuboid}
use Rattle.text.specs.declared.placed.Placed.{Placed}
use Rattle.grammar.specs.declared.state.FileKind.{FileKind}
use Rattle.grammar.specs.declared.state.FileKind.TheVariants.{Rules, Lots}
use Rattle.judge.specs.Faults.{number_of}
use Rattle.judge.specs.declared.faults.Fault.{Fault}
use Rattle.steps.specs.Stops.{reason_number}
use Rattle.steps.specs.declared.stop.Ending.{Ending}
use Rattle.steps.specs.declared.stop.Ending.TheVariants.{Done, Spent, Stopped}
use Rattle.texts.specs.Bills.{bill_text}
use Rattle.texts.specs.Lines.{line_text}
use Rattle.texts.specs.declared.line.LineKind.{LineKind}
use Rattle.texts.specs.declared.line.LineKind.TheVariants as line

-- corner and sizes of a box
abbrev pub box_numbers : Cuboid → List ℕ
box_numbers c = c.x.at.0 ∷ c.y.at.0 ∷ c.z.at.0 ∷ c.x.size.0 ∷ c.y.size.0 ∷ c.z.size.0 ∷ []

-- the last line of a sheet: the steps made, or the number, the rule line and the box of the refused step
abbrev pub ending_text : ℕ → Ending → List ℕ
ending_text steps Done = line_text line.Done steps []
ending_text steps Spent = line_text line.Spent steps []
ending_text steps (Stopped s) = line_text line.Stop (reason_number s.reason) (s.line ∷ box_numbers s.scope.cuboid)

-- how the line of a refused file begins
abbrev pub refused_kind : FileKind → LineKind
refused_kind Rules = line.RulesRefused
refused_kind Lots = line.LotsRefused

-- the line of a refused file: the number and the place of the fault
abbrev pub refused_text : FileKind → Placed Fault → List ℕ
refused_text file p = line_text (refused_kind file) (number_of p.value) (p.line ∷ p.column ∷ [])

-- the line of a block: its material, corner and sizes
abbrev pub block_line : Block → List ℕ
block_line b = line_text line.Block b.material (box_numbers b.cuboid)

-- a sheet: the bill of the counts and volumes, and then its last line
abbrev pub sheet_text : (ℕ → ℕ) → (ℕ → ℕ) → ℕ → Ending → List ℕ
sheet_text count volume steps ending = bill_text count volume ++ ending_text steps ending
