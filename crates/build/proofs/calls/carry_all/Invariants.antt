use Rattle.std.proofs.Common.{◌≡◌, take}
use Rattle.build.specs.Builds.{waiting_in, space_of, lines_in, steps_of}
use Rattle.build.specs.Carried.{GoesOn}
use Rattle.build.proofs.calls.carry_all.Given as goal

abbrev pub invariant-loop-call : goal.invariant-loop-call
invariant-loop-call g l =
    (lines_in l.build ≡ lines_in l.initial.build)
    × (space_of l.build ≡ space_of l.initial.build)
    × GoesOn g.S.Sink.edge g.S.Sink.parts g.S.Sink.took g.S.Sink.kept g.S.Sink.text (lines_in l.initial.build) (space_of l.initial.build) (take l.call-index l.calls)
    (waiting_in l.initial.build) (steps_of l.initial.build) l.initial.sink (waiting_in l.build) (steps_of l.build) l.sink
