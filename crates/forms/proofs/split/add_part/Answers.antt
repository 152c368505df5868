use Rattle.forms.proofs.Splitting.{added, not_pushed}
use Rattle.forms.proofs.split.add_part.Goals as goal

pub returns-in_err-ok : goal.returns-in_err-ok
returns-in_err-ok c =
    rw c.from_residual-in_err-ok.ensures
    (not_pushed c.args.line c.args.parts.now c.push.new.self c.args.uses.now c.in_ok-part.part c.push.result c.push.ensures c.in_err-ok.ensures.value)

pub returns : goal.returns
returns c =
    rw c.ok-2.ensures.value
    (added c.args.line c.args.parts.now c.push.new.self c.args.uses.now c.push-2.new.self c.in_ok-part.part c.push.result c.in_ok-ok.field-0
    c.in_ok-part.ensures c.push.ensures c.in_ok-ok.ensures.value c.push-2.result c.push-2.ensures)
