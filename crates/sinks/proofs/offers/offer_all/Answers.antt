use Rattle.sinks.specs.Meaning.{Taking}
use Rattle.sinks.proofs.Chains.{offers_more}
use Rattle.sinks.proofs.offers.offer_all.Goals as goal

pub loop-taken-preserved : goal.loop-taken-preserved
loop-taken-preserved g c =
    let k = g.S.Sink in
    offers_more (Taking k.edge k.parts k.took) c.args.sink.now c.loop-taken.sink c.offer.new.sink c.args.blocks.now c.loop-taken.taken c.index-blocks-taken.result
    c.loop-taken-test.true c.index-blocks-taken.is c.loop-taken.invariant (c.in_ok-offer.ensures.takes, c.in_ok-offer.ensures.state)
