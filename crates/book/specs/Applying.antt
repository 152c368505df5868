-- The line that applies to a scope.
use Rattle.std.specs.Prelude.{◌≡◌, ℕ, ◌<◌, ◌≤◌, Bool, true, false, ◌&&◌, List, length, nat_le, slice_index_or}
use Rattle.geometry.specs.declared.cuboid.Cuboid.{Cuboid}
use Rattle.geometry.specs.Boxes.{span_on}
use Rattle.book.specs.declared.guard.Guard.{Guard}
use Rattle.book.specs.declared.line.Line.{Line}
use Rattle.book.specs.Checks.{every, guards_of}

-- a guard holds if the size on its axis is from low to high, both included
abbrev pub holds : Cuboid → Guard → Bool
holds c g = nat_le g.low.0 (span_on g.axis c).size.0 && nat_le (span_on g.axis c).size.0 g.high.0

-- all of these guards hold
abbrev pub hold : Cuboid → List Guard → Bool
hold c gs = every (holds c) gs

-- all guards of a line hold
abbrev pub opens_to : Cuboid → Line → Bool
opens_to c l = hold c (guards_of l)

-- line i is the first from the rule's first line on whose guards all hold
pub record Applies (ls : List Line) (rule : ℕ) (c : Cuboid) (i : ℕ) (l : Line) : Type 0 where
  pub from : rule ≤ i
  pub there : i < length ls
  pub line : l ≡ slice_index_or ls i l
  pub holding : opens_to c l ≡ true
  pub first : (k : ℕ) (d : Line) → rule ≤ k → k < i → opens_to c (slice_index_or ls k d) ≡ false
