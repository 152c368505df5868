use Rattle.std.proofs.Common.{◌≡◌, ◌*◌, ◌≤◌, map, take}
use Rattle.geometry.specs.Sums.{total}
use Rattle.bounded.specs.Listed.{listed}
use Rattle.rows.specs.Apportion.{whole}
use Rattle.rows.specs.Rows.{weight_at}
use Rattle.rows.specs.Quotas.{quota}
use Rattle.rows.proofs.shares.share_out.Given as goal

abbrev pub invariant-loop-weight : goal.invariant-loop-weight
invariant-loop-weight l = record {
  quotas : listed l.quotas ≡ map (quota l.rest.0 l.weights.sum.0) (take l.weight-index l.weight-items);
  given : l.given ≡ total (whole l.rest.0 (weight_at l.weight-items) l.weights.sum.0) l.weight-index;
  small : l.given ≤ 4294967296 * l.weight-index;
}
