use Rattle.std.proofs.Common.{rules}
use Rattle.text.specs.Takes.{open_at}
use Rattle.text.specs.Tokens.{tokens_left}
use Rattle.forms.proofs.Leaves.{not_open}
use Rattle.forms.proofs.tokens.expect_head.Goals as goal

pub returns-in_err-take : goal.returns-in_err-take
returns-in_err-take c =
    rw c.from_residual.ensures (λ ts. not_open (tokens_left c.args.tokens.now) _ (c.in_err-take.ensures.took open_at (λ u o h. search rules)).0)
