use Rattle.std.proofs.Common.{◌≡◌, ◌-◌, ◌≤◌, [], length, sym, ap, ◌∙◌, inl, inr, arith}
use Rattle.rows.specs.Apportion.{left_over, floating}
use Rattle.rows.specs.Lengths.{length_at}
use Rattle.rows.specs.Rows.{sizes, parts_of, floats, weight_sum, fixed_sum, split_row, told_of}
use Rattle.rows.proofs.Fills.{parts_sound, sum_positive, at_code, left_in, left_fits, split_spare, split_row_lem}
use Rattle.rows.proofs.Lawfuls.{told_lawful}
use Rattle.rows.proofs.split.split.Goals as goal

-- no part floats and nothing is left
nothing_floats : (c : goal.After-fill) → told_of c.fill.result ≡ split_row c.args.extent.0 (sizes (parts_of c.args.parts.now))
nothing_floats c =
    let ss = sizes (parts_of c.args.parts.now) in
    let none : length (floats ss) ≡ 0 = omega (arith, ap length c.floating-weights.ensures, c.len-n.ensures.value) in
    let nothing : c.args.extent.0 - fixed_sum ss ≤ 0 = omega (arith, c.sub-rest.ensures, c.fixed_sum-fixed.ensures) in
    c.fill.ensures
    ∙ split_row_lem c.args.extent.0 ss (omega (arith, c.fixed_sum-fixed.ensures)) (inr nothing)
    (left_fits c.args.extent.0 ss (parts_sound (parts_of c.args.parts.now)) (inr nothing)) (length_at []) (λ k h. omega arith)

pub returns-then-n-eq0-clause-laws : goal.returns-then-n-eq0-clause-laws
returns-then-n-eq0-clause-laws c =
    told_lawful c.args.extent.0 (sizes (parts_of c.args.parts.now)) c.fill.result (parts_sound (parts_of c.args.parts.now)) (nothing_floats c)

pub apportion-shared-requires : goal.apportion-shared-requires
apportion-shared-requires c =
    let ps = parts_of c.args.parts.now in
    let e = c.floating-weights.ensures in
    omega (arith, c.floating-weights.result.sums ∙ ap weight_sum e, sum_positive (sizes ps) (parts_sound ps) (omega (arith, ap length e, c.len-n.ensures.value)))

pub returns-then-shared-n-clause-row : goal.returns-then-shared-n-clause-row
returns-then-shared-n-clause-row c =
    let ss = sizes (parts_of c.args.parts.now) in
    let e = c.floating-weights.ensures in
    let r : c.sub-rest.result.0 ≡ c.args.extent.0 - fixed_sum ss = omega (arith, c.sub-rest.ensures, c.fixed_sum-fixed.ensures) in
    let n : c.len-n.result ≡ length (floats ss) = c.len-n.ensures.value ∙ ap length e in
    let left : c.apportion-shared.result.left ≡ left_in c.args.extent.0 ss =
    c.apportion-shared.ensures.left ∙ at_code left_over _ _ _ _ _ e r c.floating-weights.result.sums in
    sym (split_spare c.args.extent.0 ss (omega (arith, c.fixed_sum-fixed.ensures)) (inl (omega (arith, n)))
    (omega (arith, left, c.if-shared-n.true, n)))

-- each floating part has its length
all_served : (c : goal.After-fill-2) → told_of c.fill-2.result ≡ split_row c.args.extent.0 (sizes (parts_of c.args.parts.now))
all_served c =
    let ss = sizes (parts_of c.args.parts.now) in
    let e = c.floating-weights.ensures in
    let r : c.sub-rest.result.0 ≡ c.args.extent.0 - fixed_sum ss = omega (arith, c.sub-rest.ensures, c.fixed_sum-fixed.ensures) in
    let n : c.len-n.result ≡ length (floats ss) = c.len-n.ensures.value ∙ ap length e in
    let left : c.apportion-shared.result.left ≡ left_in c.args.extent.0 ss =
    c.apportion-shared.ensures.left ∙ at_code left_over _ _ _ _ _ e r c.floating-weights.result.sums in
    c.fill-2.ensures
    ∙ split_row_lem c.args.extent.0 ss (omega (arith, c.fixed_sum-fixed.ensures)) (inl (omega (arith, n)))
    (omega (arith, left, c.if-shared-n.false, n)) (length_at c.as_slice.result.now)
    (λ k h.
    ap (λ ms. length_at ms k) c.as_slice.ensures.value
    ∙ c.apportion-shared.ensures.lengths k (omega (arith, ap length e))
    ∙ at_code (λ R w W n. floating R w W n k) _ _ _ _ _ e r c.floating-weights.result.sums)

pub returns-clause-row : goal.returns-clause-row
returns-clause-row c = all_served c

pub returns-clause-laws : goal.returns-clause-laws
returns-clause-laws c =
    told_lawful c.args.extent.0 (sizes (parts_of c.args.parts.now)) c.fill-2.result (parts_sound (parts_of c.args.parts.now)) (all_served c)
