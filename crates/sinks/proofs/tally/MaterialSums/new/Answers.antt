use Rattle.std.proofs.Common.{refl}
use Rattle.sinks.specs.Meaning.{over_materials}
use Rattle.sinks.proofs.tally.MaterialSums.new.Goals as goal

pub invariant_of-result : goal.invariant_of-result
unfolding over_materials
invariant_of-result c = record { summed = refl }
