use Rattle.stack.specs.Held.{entries}
use Rattle.book.specs.Lines.{lines_of}
use Rattle.steps.specs.Laying.{SameSlice}
use Rattle.steps.proofs.Runnings.{SoFar}
use Rattle.steps.proofs.running.run.Given as goal

abbrev pub invariant-loop-steps : goal.invariant-loop-steps
invariant-loop-steps g l = record {
  slice : SameSlice l.initial.stack l.stack;
  far : SoFar g.S.Sink.edge g.S.Sink.parts g.S.Sink.took g.S.Sink.kept (lines_of l.table) (entries l.initial.stack) (entries l.stack) l.steps l.initial.sink l.sink;
}
