use Rattle.std.proofs.Common.{take}
use Rattle.sinks.specs.Meaning.{Chain, Taking}
use Rattle.sinks.proofs.offers.offer_all.Given as goal

abbrev pub invariant-loop-taken : goal.invariant-loop-taken
invariant-loop-taken g l = Chain (Taking g.S.Sink.edge g.S.Sink.parts g.S.Sink.took) l.initial.sink (take l.taken l.blocks) l.sink
