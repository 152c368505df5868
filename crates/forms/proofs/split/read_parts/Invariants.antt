use Rattle.std.proofs.Common.{◌-◌, length}
use Rattle.rows.specs.Rows.{parts_of}
use Rattle.forms.specs.Splits.{PartsIn}
use Rattle.forms.proofs.split.read_parts.Given as goal

abbrev pub invariant-loop-parts : goal.invariant-loop-parts
invariant-loop-parts l = PartsIn l.room l.initial.uses l.uses l.initial.tokens l.tokens l.parts

abbrev pub decreases-loop-parts : goal.decreases-loop-parts
decreases-loop-parts l = l.room - length (parts_of l.parts)
