use Rattle.std.proofs.Common.{◌-◌, length}
use Rattle.bounded.specs.Listed.{listed}
use Rattle.grammar.specs.Forms.{guard_limit}
use Rattle.forms.specs.Fronts.{GuardsIn}
use Rattle.forms.proofs.guards.read_guards.Given as goal

abbrev pub invariant-loop-guards : goal.invariant-loop-guards
invariant-loop-guards l = GuardsIn l.initial.tokens l.tokens (listed l.guards)

abbrev pub decreases-loop-guards : goal.decreases-loop-guards
decreases-loop-guards l = guard_limit - length (listed l.guards)
