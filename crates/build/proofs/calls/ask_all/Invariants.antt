use Rattle.std.proofs.Common.{take}
use Rattle.build.specs.Carried.{SinkGoesOn}
use Rattle.build.proofs.calls.ask_all.Given as goal

abbrev pub invariant-loop-call : goal.invariant-loop-call
invariant-loop-call g l = SinkGoesOn g.S.Sink.edge g.S.Sink.parts g.S.Sink.took g.S.Sink.kept g.S.Sink.text (take l.call-index l.calls) l.initial.sink l.sink
