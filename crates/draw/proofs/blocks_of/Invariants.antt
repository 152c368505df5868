use Rattle.std.proofs.Common.{take, vec_items}
use Rattle.draw.specs.Entries.{AreBlocks}
use Rattle.draw.proofs.blocks_of.Given as goal

abbrev pub invariant-loop-entry : goal.invariant-loop-entry
invariant-loop-entry l = AreBlocks (take l.entry-index l.entries) (vec_items l.blocks)
