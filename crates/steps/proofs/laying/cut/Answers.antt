use Rattle.std.proofs.Common.{List, length, take, sym, ap, ◌∙◌, subst, rules}
use Rattle.rows.specs.declared.row.Segment.{Segment}
use Rattle.rows.specs.declared.refusal.RowRefusal.{RowRefusal}
use Rattle.rows.specs.Rows.{lengths_of}
use Rattle.stack.specs.Held.{entries, capacity}
use Rattle.steps.specs.declared.stop.Reason.TheVariants as reason
use Rattle.steps.specs.Laying.{Lays, Cuts}
use Rattle.steps.proofs.Layings.{laid_cuts}
use Rattle.steps.proofs.Mapped.{mapped, was_ok}
use Rattle.steps.proofs.laying.cut.Goals as goal

pub returns-clause-cuts : goal.returns-clause-cuts
returns-clause-cuts c =
    let first = entries c.args.stack.now in
    let last = entries c.lay.new.stack in
    let cap = capacity c.args.stack.now in
    let a = c.args.axis in
    let m = c.on.result.size in
    let row = was_ok (λ (e : RowRefusal). reason.Row e a m) _ _ (sym (mapped _ _ _ _ c.map_err.ensures.cases (λ e w k. search rules)) ∙ c.in_ok-row.was) in
    let lays = subst (λ (gs : List Segment). Lays first last cap c.args.scope a (lengths_of gs) (take (length gs) c.args.rules.now) c.lay.result) c.as_slice-segments.ensures.0 c.lay.ensures.lays in
    subst (λ x. Cuts c.args.scope a c.args.row c.args.rules.now first last cap x) (sym c.or.ensures)
    (laid_cuts c.args.scope a m c.args.row c.in_ok-row.row c.args.rules.now first last cap c.lay.result row (ap (λ s. s.size.0) c.on.ensures) lays)
