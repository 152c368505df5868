use Rattle.std.proofs.Common.{rules}
use Rattle.rules.specs.Before.{left_by}
use Rattle.rules.specs.Verdicts.{reused}
use Rattle.rules.proofs.judging.find_reused.Goals as goal

pub returns : goal.returns
returns c = c.first_at.ensures (reused (left_by c.args.book.now).names (left_by c.args.book.now).guarded) (λ s t r e. search rules)
