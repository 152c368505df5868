use Rattle.std.proofs.Common.{◌≡◌, ◌+◌, ◌*◌, ◌≤◌, drop}
use Rattle.rows.specs.Rows.{sizes, fixed_sum}
use Rattle.rows.proofs.gather.fixed_sum.Given as goal

abbrev pub invariant-loop-part : goal.invariant-loop-part
invariant-loop-part l = record {
  sum : l.fixed.0 + fixed_sum (sizes (drop l.part-index l.part-items)) ≡ fixed_sum (sizes l.part-items);
  small : l.fixed.0 ≤ 16384 * l.part-index;
}
