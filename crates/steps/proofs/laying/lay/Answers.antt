use Rattle.std.proofs.Common.{◌≡◌, ℕ, ◌<◌, List, [], ◌∷◌, length, drop, sym, refl, ap, ◌∙◌, subst, subst₂, arith, length-append, rules}
use Rattle.std.specs.Iterator.Adapters.{zip_first, zip_second, rev_source}
use Rattle.std.specs.Slice.Iter.{iter_rest}
use Rattle.geometry.specs.declared.scope.Scope.{Scope}
use Rattle.rows.specs.declared.row.Segment.{Segment}
use Rattle.rows.specs.Rows.{lengths_of}
use Rattle.stack.specs.Held.{entries, capacity}
use Rattle.steps.proofs.Layings.{Laying, lay_none, lay_more, lay_under, lay_thick, lay_known, lay_within, lay_length, lengths_more, lengths_count, push_lands, push_slice, same_slice, entries_fit}
use Rattle.steps.proofs.laying.lay.Goals as goal

pub loop-segment-init : goal.loop-segment-init
loop-segment-init c =
    let f = c.requires.row in
    let gs = c.args.segments.now in
    let first : iter_rest (rev_source (zip_first c.into_iter-segment-iterator.result)) ≡ gs = cc in
    let second : iter_rest (rev_source (zip_second c.into_iter-segment-iterator.result)) ≡ c.args.rules.now = cc in
    let whole = lay_none c.args.scope.cuboid c.args.axis (lengths_of gs) c.args.rules.now (entries c.pop.new.self) c.on.result.size.0 (ap (λ s. s.size.0) c.on.ensures ∙ sym f.sums) in
    record {
      can = search rules;
      finite = tt;
      even = omega (arith, ap length first, ap length second, f.rules, lengths_count gs);
      slice = (refl, refl);
      laying = subst₂ (λ (xs : List Segment) (ys : List ℕ). Laying c.args.scope.cuboid c.args.axis (lengths_of gs) c.args.rules.now (entries c.pop.new.self) (lengths_of xs) ys c.on.result.size.0 (entries c.pop.new.self))
          (sym first) (sym second) whole;
    }

pub sub-end-requires : goal.sub-end-requires
sub-end-requires c = lay_under _ _ _ _ _ _ _ _ _ _ _ (lengths_more _ _ _ c.in-Some.ensures.steps.0) c.loop-segment.invariant.laying

pub piece-requires-clause-within : goal.piece-requires-clause-within
piece-requires-clause-within c =
    let i = c.loop-segment.invariant in
    let e = lengths_more _ _ _ c.in-Some.ensures.steps.0 in
    let u = lay_under _ _ _ _ _ _ _ _ _ _ _ e i.laying in
    let w = lay_within _ _ _ _ _ _ _ _ _ i.laying in
    (lay_thick _ _ _ _ _ _ _ _ _ _ _ c.requires.row.thick e i.laying, omega (arith, u, w, c.requires.row.sums))

pub piece-requires-clause-known : goal.piece-requires-clause-known
piece-requires-clause-known c = lay_known _ _ _ _ _ _ _ _ _ _ _ c.requires.row.known c.in-Some.ensures.steps.1 c.loop-segment.invariant.laying

pub loop-segment-preserved : goal.loop-segment-preserved
loop-segment-preserved c =
    let f = c.requires.row in
    let i = c.loop-segment.invariant in
    let s = c.in-Some.ensures.steps in
    let popped = c.pop.ensures.popped in
    let kept = c.free.ensures.kept in
    let left : List Segment = iter_rest (rev_source (zip_first c.next.new.self)) in
    let right : List ℕ = iter_rest (rev_source (zip_second c.next.new.self)) in
    let e = lengths_more _ _ _ s.0 in
    let fewer = ap length s.0 ∙ length-append left (c.in-Some.segment.now ∷ []) in
    let fewer' = ap length s.1 ∙ length-append right (c.in-Some.rule.now ∷ []) in
    let held = lay_length _ _ _ _ _ _ _ _ _ i.laying in
    let room : length (entries c.loop-segment.stack) < capacity c.loop-segment.stack =
    omega (
      arith,
      held,
      fewer',
      f.rules,
      lengths_count c.args.segments.now,
      ap length c.requires.top,
      ap length (popped.entries_are ∙ ap (drop 1) kept.entries_are),
      ap length kept.entries_are,
      i.slice.0,
      popped.size,
      kept.size,
      entries_fit c.args.stack.now,
      c.free.ensures.value,
      c.if-free-segments.false,
    ) in
    let p = push_lands c.loop-segment.stack c.push.new.self c.piece.result c.push.result c.push.ensures room in
    let u = lay_under _ _ _ _ _ _ _ _ _ _ _ e i.laying in
    let more = lay_more _ _ _ _ _ _ _ _ _ _ _ _ c.sub-end.result.0 c.piece.result _ e s.1 i.laying (omega (arith, u, c.sub-end.ensures)) c.piece.ensures.cuboid c.piece.ensures.rule in
    record {
      can = search rules;
      finite = tt;
      even = omega (arith, i.even, fewer, fewer');
      slice = same_slice c.pop.new.self c.loop-segment.stack c.push.new.self i.slice (push_slice c.loop-segment.stack c.push.new.self c.piece.result c.push.result c.push.ensures);
      laying = subst (λ (ws : List Scope). Laying c.args.scope.cuboid c.args.axis (lengths_of c.args.segments.now) c.args.rules.now (entries c.pop.new.self) (lengths_of left) right c.sub-end.result.0 ws) (sym p) more;
    }
