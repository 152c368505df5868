-- The refusals of a sink.
use Rattle.std.specs.Prelude.{ℕ}
use Rattle.sinks.specs.declared.refusal.SinkRefusal.{SinkRefusal}
use Rattle.sinks.specs.declared.refusal.SinkRefusal.TheVariants.{NoSuch, NoRoom, OverLimit, ShortBuffer}

-- the number of each refusal
abbrev pub number : SinkRefusal → ℕ
number NoSuch = 35
number NoRoom = 53
number OverLimit = 54
number ShortBuffer = 55
