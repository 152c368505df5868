-- What waits in a build and what it counts.
use Rattle.std.specs.Prelude.{◌≡◌, ℕ, ◌-◌, ◌^◌, min, cond, List, [], length, nat_le}
use Rattle.bounded.specs.Listed.{listed}
use Rattle.geometry.specs.declared.scope.Scope.{Scope}
use Rattle.stack.specs.Held.{held}
use Rattle.book.specs.declared.line.Line.{Line}
use Rattle.book.specs.Lines.{lines_of}
use Rattle.derivation.specs.Laws.{scope_volume}
use Rattle.build.specs.declared.joined.JoinedLots.{JoinedLots}
use Rattle.build.specs.declared.build.Build.{Build}
use Rattle.build.specs.declared.build.Waiting.{Waiting}

-- the joined lots, and the lines of their book
abbrev pub lots_of : JoinedLots → List Scope
lots_of j = listed j.lots

abbrev pub joined_lines : JoinedLots → List Line
joined_lines j = lines_of j.table

-- the lots if a stack of that many entries has room for them, else none
abbrev pub passed : ℕ → List Scope → List Scope
passed space lots = cond (nat_le (length lots) space) lots []

-- the waiting scopes, the top first
abbrev pub waiting_in : Build → List Scope
waiting_in b = held b.slots.now b.mark

-- the entries of the stack
abbrev pub space_of : Build → ℕ
space_of b = length b.slots.now

abbrev pub lines_in : Build → List Line
lines_in b = lines_of b.table

-- all steps counted
abbrev pub steps_of : Build → ℕ
steps_of b = b.steps

-- the count and the volume of waiting scopes; a volume past 64 bits, which no lots have, would be told as the greatest
abbrev pub Tells : List Scope → Waiting → Type 0
Tells ws r = (r.count ≡ length ws) × (r.volume ≡ min (scope_volume ws) (2 ^ 64 - 1))
