use Rattle.std.proofs.Common.{◌≡◌}
use Rattle.geometry.specs.Sums.{count}
use Rattle.rows.specs.Apportion.{tie, comes}
use Rattle.rows.specs.Quotas.{remainder_at}
use Rattle.rows.proofs.shares.rank_of.Given as goal

abbrev pub invariant-loop-j : goal.invariant-loop-j
invariant-loop-j l = l.rank ≡ count (λ j. comes tie l.n (remainder_at l.other-items j) j l.remainder l.i) l.j
