use Rattle.std.proofs.Common.{sym}
use Rattle.rules.proofs.Added.{form_grown}
use Rattle.rules.proofs.Onward.{taken_line}
use Rattle.rules.proofs.reading.BookTakeLines.take_line.Goals as goal

pub returns-then-not-is_blank : goal.returns-then-not-is_blank
returns-then-not-is_blank c = λ fit.
    taken_line _ _ _ _ (sym c.in_ok-line_fault.ensures)
    (form_grown _ _ _ _ _ c.in_ok-line_fault.ensures c.if-not-is_blank.ensures.value fit c.add_form.ensures) fit
