use Rattle.std.proofs.Common.{◌≡◌, ℕ, ◌+◌, ◌<◌, length}
use Rattle.bounded.specs.Listed.{listed}
use Rattle.rows.specs.Apportion.{extra}
use Rattle.rows.specs.Lengths.{length_at}
use Rattle.rows.specs.Quotas.{whole_at, remainder_at, ahead}
use Rattle.rows.proofs.shares.apportion.Given as goal

-- the rest and the weight sum are not used in the loop or after it, so the invariant speaks of the shares
abbrev pub invariant-loop-i : goal.invariant-loop-i
invariant-loop-i l = record {
  lengths : (k : ℕ) → k < l.i → length_at (listed l.lengths) k ≡ whole_at l.quota-items k + extra (ahead l.quota-items (remainder_at l.quota-items k) k) l.left;
  count : length (listed l.lengths) ≡ l.i;
}
