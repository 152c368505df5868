use Rattle.std.proofs.Common.{◌≡◌, length, sym, ap, ◌∙◌, arith, rules}
use Rattle.geometry.specs.Sums.{count}
use Rattle.geometry.proofs.Totals.{count_up}
use Rattle.rows.specs.Apportion.{tie, comes}
use Rattle.rows.specs.Quotas.{remainder_at, ahead}
use Rattle.rows.proofs.Ahead.{ahead_count}
use Rattle.rows.proofs.shares.rank_of.Goals as goal

pub overflow_add-rank : goal.overflow_add-rank
overflow_add-rank c =
    let items = c.as_slice-other-items.result.now in
    omega (
      arith,
      c.loop-j.invariant,
      count_up (λ j. comes tie c.len-n.result (remainder_at items j) j c.args.remainder c.args.i) c.loop-j.j,
      c.loop-j-test.true,
      c.as_slice-other-items.ensures.few,
    )

pub returns : goal.returns
returns c =
    let items = c.as_slice-other-items.result.now in
    let n : c.len-n.result ≡ length items = search rules in
    let j : c.loop-j.j ≡ length items = omega (arith, c.loop-j-test.false) in
    c.loop-j.invariant
    ∙ ap (λ m. count (λ k. comes tie m (remainder_at items k) k c.args.remainder c.args.i) c.loop-j.j) n
    ∙ ap (count (λ k. comes tie (length items) (remainder_at items k) k c.args.remainder c.args.i)) j
    ∙ sym (ahead_count items c.args.remainder c.args.i)
    ∙ ap (λ qs. ahead qs c.args.remainder c.args.i) c.as_slice-other-items.ensures.value
