-- What a refused step is told by.
use Rattle.std.specs.Prelude.{ℕ, Some, None, Option}
use Rattle.geometry.specs.declared.axis.Axis.{Axis}
use Rattle.geometry.specs.declared.units.Mm.{Mm}
use Rattle.rows.specs.Rows as rows
use Rattle.sinks.specs.Refusals as sinks
use Rattle.steps.specs.declared.stop.Reason.{Reason}
use Rattle.steps.specs.declared.stop.Reason.TheVariants.{Row, Full, Sink}

-- its number
abbrev pub reason_number : Reason → ℕ
reason_number (Row e a m) = rows.number e
reason_number (Full a m) = 51
reason_number (Sink r) = sinks.number r

-- the part of the line that it names, 0 if none
abbrev pub reason_part : Reason → ℕ
reason_part (Row e a m) = rows.part_named e
reason_part (Full a m) = 0
reason_part (Sink r) = 0

-- for a row the axis and the length
abbrev pub reason_along : Reason → Option (Axis × Mm)
reason_along (Row e a m) = Some (a, m)
reason_along (Full a m) = Some (a, m)
reason_along (Sink r) = None
