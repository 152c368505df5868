-- The bill of material: its text, and what it means as a sink.
use Rattle.std.specs.Prelude.{ℕ, true, cond, List, [], ◌∷◌, ◌++◌, ◌==◌}
use Rattle.geometry.specs.Limits.{site}
use Rattle.geometry.specs.declared.cell.Cell.{Cell}
use Rattle.sinks.specs.Meaning.{Parts, over_materials, in_grid, materials}
use Rattle.sinks.specs.Tallied.{count_of, volume_held}
use Rattle.sinks.specs.declared.tally.Tallies.{Tallies}
use Rattle.texts.specs.declared.bill.Bill.{Bill}
use Rattle.texts.specs.declared.line.LineKind.TheVariants.{Material, Sum}
use Rattle.texts.specs.Lines.{line_text, up_to}

-- the line of a material, from the counts and volumes of all: its number, count and volume; none for one without a block
abbrev pub material_line : (ℕ → ℕ) → (ℕ → ℕ) → ℕ → List ℕ
material_line count volume m = cond (count m == 0) [] (line_text Material m (count m ∷ volume m ∷ []))

-- the line of all counts and volumes
abbrev pub sum_line : (ℕ → ℕ) → (ℕ → ℕ) → List ℕ
sum_line count volume = line_text Sum (over_materials count) (over_materials volume ∷ [])

-- the lines of the materials, lowest first, and then their sums
unfoldable pub bill_text : (ℕ → ℕ) → (ℕ → ℕ) → List ℕ
bill_text count volume = up_to (material_line count volume) materials ++ sum_line count volume

-- the bill of tallies
abbrev pub tallies_text : Tallies → List ℕ
tallies_text t = bill_text (count_of t) (volume_held t)

-- the volume in the cell of a sink whose one cell is the site
abbrev pub site_cell : Tallies → Cell → ℕ
site_cell t d = cond (in_grid site d) (over_materials (volume_held t)) 0

-- the four parts of a bill: there is always room
abbrev pub bill_parts : Bill → Parts
bill_parts b = record { count = count_of b.tallies; volume = volume_held b.tallies; cell = site_cell b.tallies; room = λ _. true }
