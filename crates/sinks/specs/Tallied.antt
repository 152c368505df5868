-- What tallies tell.
use Rattle.std.specs.Prelude.{◌≡◌, ℕ, ◌+◌, ◌-◌, Bool, Result, MatchResult, slice_index}
use Rattle.geometry.specs.declared.block.Block.{Block}
use Rattle.geometry.specs.Boxes.{volume_of}
use Rattle.sinks.specs.declared.refusal.SinkRefusal.{SinkRefusal}
use Rattle.sinks.specs.declared.tally.MaterialSums.{MaterialSums}
use Rattle.sinks.specs.declared.tally.Tallies.{Tallies}
use Rattle.sinks.specs.Meaning.{over_materials, for_material, Judged}

-- the number of a material
abbrev pub number_of : MaterialSums → ℕ → ℕ
number_of s m = slice_index s.each m

-- the blocks of a material
abbrev pub count_of : Tallies → ℕ → ℕ
count_of t m = number_of t.counts m

-- the volume of a material
abbrev pub volume_held : Tallies → ℕ → ℕ
volume_held t m = number_of t.volumes m

-- all blocks but the void ones
abbrev pub drawn_of : Tallies → ℕ
drawn_of t = over_materials (count_of t) - count_of t 0

-- u has what t has and one block more
pub record Noted (t u : Tallies) (x : Block) : Type 0 where
  pub count : (m : ℕ) → count_of u m ≡ count_of t m + for_material m x 1
  pub volume : (m : ℕ) → volume_held u m ≡ volume_held t m + for_material m x (volume_of x.cuboid)

-- the same judgement as a sink's, and the block is noted where it passes
pub record Receives (t u : Tallies) (x : Block) (room : Bool) (r : Result (Unit {0}) SinkRefusal) : Type 0 where
  pub judged : Judged (over_materials (volume_held t)) room x r
  pub after : MatchResult r (λ _. Noted t u x) (λ _. u ≡ t)
