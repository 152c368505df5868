use Rattle.std.proofs.Common.{◌≡◌, ◌++◌}
use Rattle.std.specs.Iterator.Adapters.{rev_source}
use Rattle.std.specs.Slice.Iter.{iter_rest}
use Rattle.stack.specs.Held.{entries}
use Rattle.steps.specs.Laying.{SameSlice}
use Rattle.build.proofs.opening.put_lots.Given as goal

abbrev pub invariant-loop-lot : goal.invariant-loop-lot
invariant-loop-lot l = record {
  can : (goal.iterator-loop-lot).can_next l.lot-iterator;
  finite : (goal.iterator-loop-lot).is_finite l.lot-iterator;
  slice : SameSlice l.initial.stack l.stack;
  wait : iter_rest (rev_source l.lot-iterator) ++ entries l.stack ≡ l.lots;
}
