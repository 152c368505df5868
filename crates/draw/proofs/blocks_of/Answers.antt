use Rattle.std.proofs.Common.{◌+◌, List, take, vec_items, sym, subst}
use Rattle.std.proofs.lemmas.Option.{MatchOption-at_some}
use Rattle.geometry.specs.declared.block.Block.{Block}
use Rattle.draw.specs.Entries.{AreBlocks}
use Rattle.draw.proofs.Entered.{are_more}
use Rattle.draw.proofs.blocks_of.Goals as goal

pub loop-entry-preserved : goal.loop-entry-preserved
loop-entry-preserved c =
    let es = c.args.entries.now in
    let P : List Block → Type 0 = λ bs. AreBlocks (take (c.loop-entry.entry-index + 1) es) bs in
    subst P (sym c.in_ok-push.ensures.items)
    (are_more es c.loop-entry.entry-index (vec_items c.loop-entry.blocks) _ c.in_ok-block.block c.loop-entry-test.true c.loop-entry.invariant
    (MatchOption-at_some _ _ c.in_ok-block.block c.in_ok-block.ensures c.block_of.ensures))
