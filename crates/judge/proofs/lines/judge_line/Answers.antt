use Rattle.std.proofs.Common.{◌∙◌}
use Rattle.judge.proofs.Accepted.{accepts}
use Rattle.judge.proofs.lines.judge_line.Goals as goal

pub returns-clause-accepts : goal.returns-clause-accepts
returns-clause-accepts c = accepts c.args.file c.args.line.bytes.now c.args.line.number c.err.result (c.err.ensures.value ∙ c.first_fault.ensures.value)
