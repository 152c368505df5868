use Rattle.std.proofs.Common.{◌≡◌, ℕ, ◌+◌, ◌^◌, ◌<◌, length, map, sym, ap, ◌∙◌, arith, rules}
use Rattle.std.proofs.lemmas.List.{length-map, length_push}
use Rattle.bounded.specs.Listed.{listed}
use Rattle.bounded.proofs.Listed.{pushed_in}
use Rattle.rows.specs.Apportion.{tie, before, rank_by, whole, remainder, extra}
use Rattle.rows.specs.Rows.{weight_at}
use Rattle.rows.specs.Quotas.{quota, whole_at, remainder_at, ahead}
use Rattle.rows.proofs.Ahead.{quota_whole, quota_rank}
use Rattle.rows.proofs.Looping.{length_more}
use Rattle.rows.proofs.shares.apportion.Goals as goal

pub add-requires : goal.add-requires
add-requires c =
    let ws = listed c.args.weights.now.list in
    let items = c.as_slice-quota-items.result.now in
    let i = c.loop-i.i in
    let q : items ≡ map (quota c.args.rest.0 c.args.weights.now.sum.0) ws = c.as_slice-quota-items.ensures.value ∙ c.share_out-left.ensures.quotas in
    let h : i < length ws = omega (arith, ap length q, length-map ws (quota c.args.rest.0 c.args.weights.now.sum.0), c.loop-i-test.true) in
    let w : whole_at items i ≡ whole c.args.rest.0 (weight_at ws) c.args.weights.now.sum.0 i =
    ap (λ qs. whole_at qs i) q ∙ quota_whole c.args.rest.0 c.args.weights.now.sum.0 ws i h in
    let r : c.args.rest.0 < 2 ^ 32 = search rules in
    omega (arith, w, c.share_out-left.ensures.room i h, c.extra.ensures.1, r)

pub loop-i-preserved : goal.loop-i-preserved
loop-i-preserved c =
    let items = c.as_slice-quota-items.result.now in
    let ms = listed c.loop-i.lengths in
    let few : length ms < 16 = omega (arith, c.loop-i.invariant.count, c.loop-i-test.true, c.as_slice-quota-items.ensures.few) in
    let pushed = pushed_in 16 ms c.add.result (listed c.push.new.self) c.push.result c.push.ensures.pushed few in
    let rank = c.rank_of-rank.ensures ∙ ap (λ qs. ahead qs (remainder_at items c.loop-i.i) c.loop-i.i) (sym c.as_slice-quota-items.ensures.value) in
    record {
      lengths =
          length_more (λ k. whole_at items k + extra (ahead items (remainder_at items k) k) c.share_out-left.result.left) ms (listed c.push.new.self) c.loop-i.i c.add.result pushed c.loop-i.invariant.count c.loop-i.invariant.lengths
          (c.add.ensures ∙ ap (λ e. whole_at items c.loop-i.i + e) (c.extra.ensures.0 ∙ ap (λ n. extra n c.share_out-left.result.left) rank));
      count = ap length pushed ∙ length_push ms c.add.result ∙ ap (λ n. n + 1) c.loop-i.invariant.count;
    }

pub returns-clause-lengths : goal.returns-clause-lengths
returns-clause-lengths c = λ k h.
    let ws = listed c.args.weights.now.list in
    let items = c.as_slice-quota-items.result.now in
    let R : ℕ = c.args.rest.0 in
    let W : ℕ = c.args.weights.now.sum.0 in
    let q : items ≡ map (quota R W) ws = c.as_slice-quota-items.ensures.value ∙ c.share_out-left.ensures.quotas in
    let n : length items ≡ length ws = ap length q ∙ length-map ws (quota R W) in
    let here = c.loop-i.invariant.lengths k (omega (arith, n, c.loop-i-test.false)) in
    let w : whole_at items k ≡ whole R (weight_at ws) W k = ap (λ qs. whole_at qs k) q ∙ quota_whole R W ws k h in
    let a : ahead items (remainder_at items k) k ≡ rank_by (before tie (length ws) (remainder R (weight_at ws) W)) (length ws) k =
    ap (λ qs. ahead qs (remainder_at qs k) k) q ∙ quota_rank R W ws k h in
    let e = c.share_out-left.ensures.left in
    cc
