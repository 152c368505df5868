use Rattle.text.specs.Tokens.{tokens_left}
use Rattle.forms.proofs.Fronted.{no_low}
use Rattle.forms.proofs.guards.read_guard.Goals as goal

pub returns-in_err-low : goal.returns-in_err-low
returns-in_err-low c =
    rw c.from_residual-in_err-low.ensures
    (no_low c.in_ok-axis.axis.value _ (tokens_left c.args.tokens.now) _ c.in_ok-axis.ensures.is c.in_err-low.ensures)
