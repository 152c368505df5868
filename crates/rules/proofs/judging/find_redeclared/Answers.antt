use Rattle.std.proofs.Common.{rules}
use Rattle.rules.specs.Before.{left_by}
use Rattle.rules.specs.Verdicts.{redeclared}
use Rattle.rules.proofs.judging.find_redeclared.Goals as goal

pub returns : goal.returns
returns c = c.first_at.ensures (redeclared (left_by c.args.book.now).materials) (λ s t r e. search rules)
