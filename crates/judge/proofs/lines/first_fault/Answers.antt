use Rattle.std.specs.Result.{result_err}
use Rattle.judge.proofs.Accepted.{accepts}
use Rattle.judge.proofs.lines.first_fault.Goals as goal

pub returns-clause-accepts : goal.returns-clause-accepts
returns-clause-accepts c = accepts c.args.file c.args.line.bytes.now c.args.line.number (result_err c.find_fault.result) c.find_fault.ensures.value
