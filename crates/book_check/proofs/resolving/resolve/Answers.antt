use Rattle.std.proofs.Common.{◌≡◌, ◌<◌, ◌≤◌, ◌≢◌, length, drop, sym, refl, ap, ◌∙◌, subst, ⊎_elim, arith, rules}
use Rattle.std.proofs.lemmas.List.{get_or-replicate, get_or-set_other, length-set, length-drop}
use Rattle.rules.specs.Holds.{complete}
use Rattle.book_check.specs.Resolved.{LineOf, Filler}
use Rattle.book_check.proofs.Clears.{accepted_tells, line_whole}
use Rattle.book_check.proofs.Nexts.{next_of, Next}
use Rattle.book_check.proofs.Resolvings.{own_more, line_meant}
use Rattle.book_check.proofs.resolving.resolve.Goals as goal
use Rattle.book_check.proofs.resolving.resolve.Goals.{In-Some}

-- the name and the rule line that were read, and those after them
name : (c : In-Some) → Next c.args.book.now.names c.loop-i.i-iterator.count c.in-Some.name.now c.next.new.self.iter.a.rest.now
name c = next_of _ _ _ _ (c.loop-i.invariant.3 ∙ c.in-Some.ensures.steps.0.0)

rule : (c : In-Some) → Next c.args.book.now.lines c.loop-i.i-iterator.count c.in-Some.rule.now c.next.new.self.iter.b.rest.now
rule c = next_of _ _ _ _ (c.loop-i.invariant.4 ∙ c.in-Some.ensures.steps.0.1)

pub loop-i-init : goal.loop-i-init
loop-i-init c =
    let none : c.into_iter-i-iterator.result.count ≡ 0 = search rules in (
      refl,
      λ k n r d h. absurd (omega (arith, none)),
      λ k d p h. subst Filler (sym (get_or-replicate 64 k c.filler-lines.result d h)) c.filler-lines.ensures,
      search rules,
      search rules,
      omega (arith, none),
    )

pub line_of-requires : goal.line_of-requires
line_of-requires c =
    let ps = c.args.book.now in
    let a = accepted_tells ps c.requires in
    let i = c.loop-i.i-iterator.count in
    let q = rule (goal.at.line_of-requires c).In-Some in
    let r = c.in-Some.rule.now in
    record { whole = ap (complete ps.uses) (sym (q.is r)) ∙ line_whole ps a i r q.there; meant = line_meant ps a i r q.there (sym (q.is r)) }

pub loop-i-preserved : goal.loop-i-preserved
loop-i-preserved c =
    let s = (goal.at.loop-i-preserved c).In-Some in
    let ps = c.args.book.now in
    let a = accepted_tells ps c.requires in
    let i = c.loop-i.i-iterator.count in
    let ls = c.loop-i.lines in
    let h = c.in-Some.ensures.steps in
    let m = name s in
    let q = rule s in
    let g : i < length ls = omega (arith, q.there, a.few, c.loop-i.invariant.0) in
    let own = own_more ps ps.names ps.lines ls i c.in-Some.name.now c.in-Some.rule.now c.line_of.result m.there q.there g c.loop-i.invariant.1 (sym (q.is c.in-Some.rule.now))
    (subst (λ n. LineOf ps n c.in-Some.rule.now c.line_of.result) (sym (m.is c.in-Some.name.now)) c.line_of.ensures) in
    rw h.1 (
      length-set ls i c.line_of.result ∙ c.loop-i.invariant.0,
      λ k n r d p. own k n r d (omega (arith, p, h.2)),
      λ k d p z. let e : k ≢ i = λ e. omega (arith, p, h.2) in subst Filler (sym (get_or-set_other ls i k c.line_of.result d e)) (c.loop-i.invariant.2 k d (omega (arith, p, h.2)) z),
      ap (λ k. drop k ps.names) h.2 ∙ sym m.left,
      ap (λ k. drop k ps.lines) h.2 ∙ sym q.left,
      omega (arith, h.2, q.there),
    )

-- all names or all rule lines were read, so all rule lines
pub returns : goal.returns
returns c =
    let ps = c.args.book.now in
    let a = accepted_tells ps c.requires in
    let s = c.loop-i.i-iterator in
    let end : length ps.lines ≤ s.count =
    ⊎_elim (λ e. omega (arith, e.1.0, ap length c.loop-i.invariant.3, length-drop s.count ps.names, a.paired))
    (λ e. omega (arith, e.1.0, ap length c.loop-i.invariant.4, length-drop s.count ps.lines)) c.in-None.ensures.steps.0 in
    record {
      own = λ i n r l h. c.loop-i.invariant.1 i n r l (omega (arith, h, end));
      others = λ i l h g. c.loop-i.invariant.2 i l (omega (arith, h, c.loop-i.invariant.5)) g;
    }
