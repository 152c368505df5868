use Rattle.std.proofs.Common.{sym, ◌∙◌}
use Rattle.judge.proofs.Filed.{found_none}
use Rattle.judge.specs.declared.faults.Fault.TheVariants.{TooMany}
use Rattle.lots.proofs.Added.{line_taken}
use Rattle.lots.proofs.reading.LotListTakeLines.take_line.Goals as goal

pub returns : goal.returns
returns c = λ fit.
    line_taken _ _ _ _ _ c.in_ok-first_fault.ensures.value
    (sym (found_none TooMany c.args.line.number _ (sym c.in_ok-refuse.ensures)) ∙ c.find_too_many.ensures) c.if-is_blank.ensures.value fit c.add_lot.ensures
