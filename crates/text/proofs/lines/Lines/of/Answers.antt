use Rattle.text.proofs.Cuts.{rejoins}
use Rattle.text.proofs.lines.Lines.of.Goals as goal

pub returns-clause-law : goal.returns-clause-law
returns-clause-law c = rejoins c.args.text.now
