use Rattle.std.proofs.Common.{drop}
use Rattle.std.specs.Slice.Iter.{iter_rest}
use Rattle.bounded.specs.Listed.{listed}
use Rattle.rows.specs.Lengths.{length_at}
use Rattle.rows.specs.Rows.{sizes}
use Rattle.rows.proofs.Fills.{Laying}
use Rattle.rows.proofs.split.fill.Given as goal

abbrev pub invariant-loop-i : goal.invariant-loop-i
invariant-loop-i l = Laying (length_at l.lengths) (sizes l.part-items) (listed l.segments) l.i (length_at (iter_rest l.floating)) (sizes (drop l.i l.part-items))
