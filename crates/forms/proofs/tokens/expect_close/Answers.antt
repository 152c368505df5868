use Rattle.std.proofs.Common.{rules}
use Rattle.text.specs.Takes.{close_at}
use Rattle.forms.proofs.Leaves.{close_wanted}
use Rattle.forms.proofs.tokens.expect_close.Goals as goal

pub returns : goal.returns
returns c = close_wanted c.args.tokens.now c.take.new.tokens c.take.result (c.take.ensures.took close_at (λ u o h. search rules))
