use Rattle.std.proofs.Common.{◌≡◌, ◌+◌, ◌++◌, [], ◌∷◌, length, drop, sym, ap, ◌∙◌, arith, length-append}
use Rattle.std.proofs.lemmas.List.{append_assoc}
use Rattle.bounded.specs.Listed.{listed}
use Rattle.bounded.proofs.Listed.{pushed_in}
use Rattle.rows.specs.Rows.{sizes, floats, weight_sum}
use Rattle.rows.proofs.Looping.{size_read}
use Rattle.rows.proofs.Fills.{float_small, sum_push}
use Rattle.rows.proofs.gather.floating.Goals as goal

pub loop-part-preserved : goal.loop-part-preserved
loop-part-preserved c =
    let items = c.as_slice-part-items.result.now in
    let next = floats (sizes (drop (c.loop-part.part-index + 1) items)) in
    let ws = listed c.loop-part.list in
    let i = c.loop-part.invariant in
    elim c.match-part.branch [
      | goal.in-Float w ↦
          let read : floats (sizes (drop c.loop-part.part-index items)) ≡ w.in-Float.weight ∷ next =
          size_read floats items c.loop-part.part-index c.part-item.result _ c.loop-part-test.true c.part-item.is w.in-Float.is in
          let pushed = pushed_in 16 ws w.in-Float.weight (listed w.push.new.self) w.push.result w.push.ensures.pushed (omega (arith, i.few, c.as_slice-part-items.ensures.1)) in
          let list : listed c.match-part.list ≡ ws ++ w.in-Float.weight ∷ [] = ap listed w.list-is ∙ pushed in
          let sum : c.match-part.sum.0 ≡ w.add-sum.result.0 = ap (λ x. x.0) w.sum-is in
          record {
            weights = ap (λ xs. xs ++ next) list ∙ append_assoc ws (w.in-Float.weight ∷ []) next ∙ ap (λ xs. ws ++ xs) (sym read) ∙ i.weights;
            sum = sum ∙ omega (arith, i.sum) ∙ sym (ap weight_sum list ∙ sum_push ws w.in-Float.weight);
            small = omega (arith, float_small c.part-item.result w.in-Float.weight w.in-Float.is);
            few = omega (arith, ap length list, length-append ws (w.in-Float.weight ∷ []), i.few);
          }
      | goal.in_default w ↦
          let read : floats (sizes (drop c.loop-part.part-index items)) ≡ next =
          size_read floats items c.loop-part.part-index c.part-item.result _ c.loop-part-test.true c.part-item.is w.in_default.is in
          let list : listed c.match-part.list ≡ ws = ap listed w.list-is in
          let sum : c.match-part.sum.0 ≡ c.loop-part.sum.0 = ap (λ x. x.0) w.sum-is in
          record {
            weights = ap (λ xs. xs ++ next) list ∙ ap (λ xs. ws ++ xs) (sym read) ∙ i.weights;
            sum = sum ∙ i.sum ∙ sym (ap weight_sum list);
            small = omega (arith, i.small);
            few = omega (arith, ap length list, i.few);
          }
    ]
