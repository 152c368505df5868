use Rattle.std.proofs.Common.{rules, tests, ◌∙◌, sym, arith}
use Rattle.std.proofs.lemmas.Iterator.{YieldsList-from_slice, YieldsList-from_map}
use Rattle.std.proofs.lemmas.Iterator.Consumers.{sum_by_from_yields_List, fits_by_from_yields_list}
use Rattle.geometry.specs.declared.block.Block.{Block}
use Rattle.geometry.specs.Boxes.{shared_with}
use Rattle.sinks.proofs.Blocks.{sum_of_by, shared_few}
use Rattle.sinks.proofs.list.shared_of.Goals as goal

pub sum-requires-clause-fits : goal.sum-requires-clause-fits
sum-requires-clause-fits c =
    let f = λ (b : Block). shared_with 1 c.args.cell b.cuboid in
    let bs = c.args.blocks.now in
    fits_by_from_yields_list f bs c.map.result _ (YieldsList-from_map _ f (YieldsList-from_slice bs cc) c.map.ensures.closure (λ x r q k. search (rules, tests)))
    (omega (arith, shared_few c.args.cell bs, sum_of_by f bs, c.iter.ensures.len, c.iter.ensures.bound))

pub returns : goal.returns
returns c =
    let f = λ (b : Block). shared_with 1 c.args.cell b.cuboid in
    let bs = c.args.blocks.now in
    sum_by_from_yields_List f bs c.map.result _ c.sum.ensures.ran (YieldsList-from_map _ f (YieldsList-from_slice bs cc) c.map.ensures.closure (λ x r q k. search (rules, tests)))
    ∙ sym (sum_of_by f bs)
