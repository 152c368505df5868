use Rattle.std.proofs.Common.{◌≡◌, ℕ, ◌≤◌, length, sym, ap, ◌∙◌, arith}
use Rattle.geometry.specs.Sums.{total}
use Rattle.geometry.proofs.Totals.{total_part}
use Rattle.rows.specs.Apportion.{whole}
use Rattle.rows.specs.Rows.{weight_at, weight_sum}
use Rattle.rows.proofs.Remainders.{wholes_le}
use Rattle.rows.proofs.shares.share_out.Goals as goal

pub share-quotient-requires : goal.share-quotient-requires
share-quotient-requires c =
    let items = c.as_slice-weight-items.result.now in
    let sums : c.args.weights.now.sum.0 ≡ weight_sum items = c.args.weights.now.sums ∙ ap weight_sum (sym c.as_slice-weight-items.ensures.value) in
    (c.requires, omega (arith, sums, total_part (weight_at items) (length items) c.loop-weight.weight-index c.loop-weight-test.true))

pub returns-clause-room : goal.returns-clause-room
returns-clause-room c =
    let items = c.as_slice-weight-items.result.now in
    let R : ℕ = c.args.rest.0 in
    let W : ℕ = c.args.weights.now.sum.0 in
    let n : c.loop-weight.weight-index ≡ length items = omega arith in
    let g : c.loop-weight.given ≡ total (whole R (weight_at items) W) (length items) = c.loop-weight.invariant.given ∙ ap (total (whole R (weight_at items) W)) n in
    let sums : W ≡ weight_sum items = c.args.weights.now.sums ∙ ap weight_sum (sym c.as_slice-weight-items.ensures.value) in
    let le : total (whole R (weight_at items) W) (length items) ≤ R =
    rw sums (wholes_le R (weight_at items) (length items) (omega (arith, sums, c.requires))) in
    rw (← c.as_slice-weight-items.ensures.value)
    (λ k h. omega (arith, total_part (whole R (weight_at items) W) (length items) k h, c.saturating_sub-left.ensures, le, g))
