-- Boxes, their volumes, what they share with the cells of a grid, and their pieces.
use Rattle.std.specs.Prelude.{◌≡◌, ℕ, ◌+◌, ◌-◌, ◌*◌, ◌≤◌, min, max}
use Rattle.geometry.specs.declared.span.Span.{Span}
use Rattle.geometry.specs.declared.axis.Axis.{Axis}
use Rattle.geometry.specs.declared.axis.Axis.TheVariants.{X, Y, Z}
use Rattle.geometry.specs.declared.cuboid.Cuboid.{Cuboid}
use Rattle.geometry.specs.declared.cell.Cell.{Cell}
use Rattle.geometry.specs.Limits.{site, least}

-- `size` millimetres from `at` on are a stretch of the site
abbrev pub Fits : ℕ → ℕ → Type 0
Fits at size = (least ≤ size) × (at + size ≤ site)

-- s is the stretch of `size` millimetres from `at` on
abbrev pub Stretch : ℕ → ℕ → Span → Type 0
Stretch at size s = (s.at.0 ≡ at) × (s.size.0 ≡ size)

-- c is the box with that corner and those sizes
abbrev pub Boxed : ℕ → ℕ → ℕ → ℕ → ℕ → ℕ → Cuboid → Type 0
Boxed px py pz sx sy sz c = Stretch px sx c.x × Stretch py sy c.y × Stretch pz sz c.z

-- the stretch of a box on an axis
abbrev pub span_on : Axis → Cuboid → Span
span_on X c = c.x
span_on Y c = c.y
span_on Z c = c.z

-- the box with another stretch on an axis
abbrev pub with_span : Axis → Span → Cuboid → Cuboid
with_span X s c = record { x = s; y = c.y; z = c.z }
with_span Y s c = record { x = c.x; y = s; z = c.z }
with_span Z s c = record { x = c.x; y = c.y; z = s }

-- a number for each axis, multiplied
abbrev pub product : (Span → ℕ) → (Span → ℕ) → (Span → ℕ) → Cuboid → ℕ
product f g h c = f c.x * g c.y * h c.z

abbrev pub extent : Span → ℕ
extent s = s.size.0

abbrev pub volume_of : Cuboid → ℕ
volume_of c = product extent extent extent c

-- the length that a stretch shares with the stretch i of a grid of edge e
abbrev pub overlap : ℕ → ℕ → Span → ℕ
overlap e i s = min (i * e + e) (s.at.0 + s.size.0) - max (i * e) s.at.0

-- the volume that a box shares with a cell of a grid of edge e
abbrev pub shared_with : ℕ → Cell → Cuboid → ℕ
shared_with e d c = product (overlap e d.i) (overlap e d.j) (overlap e d.k) c

-- `length` millimetres from the offset on lie in the stretch and are not too short
abbrev pub Within : Span → ℕ → ℕ → Type 0
Within s offset length = (least ≤ length) × (offset + length ≤ s.size.0)

-- p is the piece of c along the axis a from the offset on, of that length
abbrev pub Piece : Cuboid → Axis → ℕ → ℕ → Cuboid → Type 0
Piece c a offset length p = (t : Span) × Stretch ((span_on a c).at.0 + offset) length t × (p ≡ with_span a t c)
