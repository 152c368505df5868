use Rattle.std.proofs.Common.{sym, subst, rules}
use Rattle.stack.specs.Held.{entries, capacity}
use Rattle.book.specs.Lines.{lines_of}
use Rattle.book.proofs.Checkings.{lines_checked}
use Rattle.derivation.proofs.Keeps.{body_ok}
use Rattle.steps.specs.declared.stop.Reason.{Reason}
use Rattle.steps.specs.Acting.{Stepped}
use Rattle.steps.proofs.Actings.{acted_steps}
use Rattle.steps.proofs.Mapped.{mapped}
use Rattle.steps.proofs.acting.step.Goals as goal

pub act-requires-clause-ok : goal.act-requires-clause-ok
act-requires-clause-ok g c =
    let table = c.args.table.now in
    (c.choose_ref.result.0, body_ok (lines_of table) (lines_checked (lines_of table) table.full table.checked) c.choose_ref.ensures)

pub returns-clause-steps : goal.returns-clause-steps
returns-clause-steps g c =
    let k = g.S.Sink in
    let first = entries c.args.stack.now in
    let last = entries c.act.new.stack in
    let cap = capacity c.args.stack.now in
    let x = c.args.sink.now in
    let y = c.act.new.sink in
    let l = c.choose_ref.result.1.now in
    let told = mapped (λ (w : Reason). record { reason = w; line = l.number; scope = c.args.scope }) _ _ _ c.map_err.ensures.cases (λ e w k. search rules) in
    subst (λ r. Stepped k.edge k.parts k.took k.kept (lines_of c.args.table.now) first last cap x y r) (sym told)
    (acted_steps k.edge k.parts k.took k.kept (lines_of c.args.table.now) c.args.scope first last cap x y c.choose_ref.result.0 l c.requires c.choose_ref.ensures c.act.result c.act.ensures.acts)
