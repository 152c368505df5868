use Rattle.texts.proofs.Joins.{lines_join}
use Rattle.texts.proofs.laws.lines_join.Goals as goal

pub returns : goal.returns
returns c = lines_join
