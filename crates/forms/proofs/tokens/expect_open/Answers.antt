use Rattle.std.proofs.Common.{rules}
use Rattle.text.specs.Takes.{open_at}
use Rattle.forms.proofs.Leaves.{open_wanted}
use Rattle.forms.proofs.tokens.expect_open.Goals as goal

pub returns : goal.returns
returns c = open_wanted c.args.tokens.now c.take.new.tokens c.take.result (c.take.ensures.took open_at (λ u o h. search rules))
