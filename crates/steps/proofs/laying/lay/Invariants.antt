use Rattle.std.proofs.Common.{◌≡◌, length}
use Rattle.std.specs.Iterator.Adapters.{zip_first, zip_second, rev_source}
use Rattle.std.specs.Slice.Iter.{iter_rest}
use Rattle.rows.specs.Rows.{lengths_of}
use Rattle.stack.specs.Held.{entries}
use Rattle.steps.specs.Laying.{SameSlice}
use Rattle.steps.proofs.Layings.{Laying}
use Rattle.steps.proofs.laying.lay.Given as goal

abbrev pub invariant-loop-segment : goal.invariant-loop-segment
invariant-loop-segment l =
    let segments = iter_rest (rev_source (zip_first l.segment-iterator)) in
    let rules = iter_rest (rev_source (zip_second l.segment-iterator)) in
    record {
      can : (goal.iterator-loop-segment).can_next l.segment-iterator;
      finite : (goal.iterator-loop-segment).is_finite l.segment-iterator;
      even : length segments ≡ length rules;
      slice : SameSlice l.initial.stack l.stack;
      laying : Laying l.scope.cuboid l.axis (lengths_of l.segments) l.rules (entries l.initial.stack) (lengths_of segments) rules l.end.0 (entries l.stack);
    }
