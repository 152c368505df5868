use Rattle.std.proofs.Common.{◌≡◌, ◌+◌, Option, Some, None, drop, ap, sym, ◌∙◌, ⊎_elim, rules}
use Rattle.std.specs.Result.{result_err}
use Rattle.text.specs.Findings.{or_else}
use Rattle.text.specs.declared.placed.Placed.{Placed}
use Rattle.judge.specs.declared.faults.Fault.{Fault}
use Rattle.book_check.specs.Faults.{lines_fault, line_fault, book_fault}
use Rattle.book_check.proofs.Judgings.{lines_more, names_over, lines_over}
use Rattle.book_check.proofs.Nexts.{next_of, Next}
use Rattle.book_check.proofs.judging.first_fault.Goals as goal
use Rattle.book_check.proofs.judging.first_fault.Goals.{After-line_fault}

-- the name that was read, and those after it
name : (c : After-line_fault) → Next c.args.book.now.names c.loop-i.i-iterator.count c.in-Some.name.now c.next.new.self.iter.a.rest.now
name c = next_of _ _ _ _ (c.loop-i.invariant.0 ∙ c.in-Some.ensures.steps.0.0)

-- what is found of the rest
abbrev rest : After-line_fault → Option (Placed Fault)
rest c = lines_fault c.args.book.now (c.loop-i.i-iterator.count + 1) c.next.new.self.iter.a.rest.now c.next.new.self.iter.b.rest.now

-- what was found of the line stands before what is found of the rest
found : (c : After-line_fault) (o : Option (Placed Fault))
    → o ≡ line_fault c.args.book.now c.in-Some.i c.in-Some.name.now (drop (c.in-Some.i + 1) c.args.book.now.names) c.in-Some.line.now
    → or_else o (rest c) ≡ book_fault c.args.book.now
found c o d =
    let ps = c.args.book.now in
    let i = c.loop-i.i-iterator.count in
    let n = c.in-Some.name.now in
    let r = c.in-Some.line.now in
    let h = c.in-Some.ensures.steps in
    let e : o ≡ line_fault ps i n (drop (i + 1) ps.names) r = d ∙ ap (λ k. line_fault ps k n (drop (k + 1) ps.names) r) h.1 in
    sym (lines_more ps i _ _ n _ r _ o h.0.0 h.0.1 (name c).left e) ∙ c.loop-i.invariant.1

pub returns-in_err-line_fault : goal.returns-in_err-line_fault
returns-in_err-line_fault c =
    let a = (goal.at.returns-in_err-line_fault c).After-line_fault in
    let q : result_err c.from_residual.result ≡ Some c.in_err-line_fault.field-0.0 = search rules in
    q ∙ found a (Some c.in_err-line_fault.field-0.0) c.in_err-line_fault.ensures

pub loop-i-preserved : goal.loop-i-preserved
loop-i-preserved c =
    let a = (goal.at.loop-i-preserved c).After-line_fault in
    let h = c.in-Some.ensures.steps in (
      ap (λ k. drop k c.args.book.now.names) h.2 ∙ sym (name a).left,
      ap (λ k. lines_fault c.args.book.now k c.next.new.self.iter.a.rest.now c.next.new.self.iter.b.rest.now) h.2 ∙ found a None c.in_ok-line_fault.ensures,
    )

pub returns : goal.returns
returns c =
    let s = c.loop-i.i-iterator in
    ⊎_elim (λ a. sym (names_over c.args.book.now s.count s.iter.a.rest.now s.iter.b.rest.now a.1.0) ∙ c.loop-i.invariant.1)
    (λ b. sym (lines_over c.args.book.now s.count s.iter.a.rest.now s.iter.b.rest.now b.1.0) ∙ c.loop-i.invariant.1)
    c.in-None.ensures.steps.0
