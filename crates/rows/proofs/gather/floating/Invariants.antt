use Rattle.std.proofs.Common.{◌≡◌, ◌*◌, ◌++◌, ◌≤◌, length, drop}
use Rattle.bounded.specs.Listed.{listed}
use Rattle.rows.specs.Rows.{sizes, floats, weight_sum}
use Rattle.rows.proofs.gather.floating.Given as goal

abbrev pub invariant-loop-part : goal.invariant-loop-part
invariant-loop-part l = record {
  weights : listed l.list ++ floats (sizes (drop l.part-index l.part-items)) ≡ floats (sizes l.part-items);
  sum : l.sum.0 ≡ weight_sum (listed l.list);
  small : l.sum.0 ≤ 1000 * l.part-index;
  few : length (listed l.list) ≤ l.part-index;
}
