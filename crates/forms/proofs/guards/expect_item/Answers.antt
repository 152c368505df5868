use Rattle.std.proofs.Common.{rules}
use Rattle.text.specs.Takes.{open_at}
use Rattle.text.specs.Tokens.{tokens_left}
use Rattle.forms.proofs.Fronted.{no_item}
use Rattle.forms.proofs.guards.expect_item.Goals as goal

pub returns-in_err-take : goal.returns-in_err-take
returns-in_err-take c =
    rw c.from_residual.ensures (λ k. no_item k (tokens_left c.args.tokens.now) (c.in_err-take.ensures.took open_at (λ u o h. search rules)).0)
