-- Pieces that fill a box, and volumes as numbers of cubes.
use Rattle.std.specs.Prelude.{◌≡◌, ℕ, ◌+◌, ◌*◌, ◌≤◌, Bool, cond, ◌&&◌, List, [], ◌∷◌, nat_le, nat_lt}
use Rattle.geometry.specs.declared.span.Span.{Span}
use Rattle.geometry.specs.declared.axis.Axis.{Axis}
use Rattle.geometry.specs.declared.cuboid.Cuboid.{Cuboid}
use Rattle.geometry.specs.declared.cell.Cell.{Cell}
use Rattle.geometry.specs.Limits.{site}
use Rattle.geometry.specs.Sums.{total, sum_of}
use Rattle.geometry.specs.Boxes.{span_on, volume_of, shared_with, Piece}

-- pieces of those lengths, laid end to end along the axis from the offset on
abbrev pub Laid : Cuboid → Axis → ℕ → List ℕ → List Cuboid → Type 0
Laid c a offset [] [] = Unit {0}
Laid c a offset [] (p ∷ ps) = ⊥
Laid c a offset (l ∷ ls) [] = ⊥
Laid c a offset (l ∷ ls) (p ∷ ps) = Piece c a offset l p × Laid c a (offset + l) ls ps

-- the boxes have, together, what the box has in every cell of every grid, and its volume
pub record Shares (c : Cuboid) (ps : List Cuboid) : Type 0 where
  pub cells : (e : ℕ) (d : Cell) → sum_of (shared_with e d) ps ≡ shared_with e d c
  pub whole : sum_of volume_of ps ≡ volume_of c

abbrev pub PiecesShare : Type 0
PiecesShare = (c : Cuboid) (a : Axis) (ls : List ℕ) (ps : List Cuboid)
    → Laid c a 0 ls ps → sum_of (λ l. l) ls ≡ (span_on a c).size.0 → Shares c ps

-- whether a stretch holds the millimetre n, and whether the stretch i of a grid of edge e does
abbrev pub holds : Span → ℕ → Bool
holds s n = nat_le s.at.0 n && nat_lt n (s.at.0 + s.size.0)

abbrev pub grid_holds : ℕ → ℕ → ℕ → Bool
grid_holds e i n = nat_le (i * e) n && nat_lt n ((i + 1) * e)

-- how many cubes (a, b, c) with a, b and c below n pass the three tests
abbrev pub cubes : ℕ → (ℕ → Bool) → (ℕ → Bool) → (ℕ → Bool) → ℕ
cubes n p q r = total (λ a. total (λ b. total (λ c. cond (p a && (q b && r c)) 1 0) n) n) n

-- the cubes of a box, and those that lie in the box and in a cell, counted over any cube that holds the site
pub record Counts (n : ℕ) (c : Cuboid) : Type 0 where
  pub whole : volume_of c ≡ cubes n (holds c.x) (holds c.y) (holds c.z)
  pub cells : (e : ℕ) (d : Cell) → shared_with e d c
      ≡ cubes n (λ a. holds c.x a && grid_holds e d.i a) (λ a. holds c.y a && grid_holds e d.j a) (λ a. holds c.z a && grid_holds e d.k a)

abbrev pub VolumesCount : Type 0
VolumesCount = (n : ℕ) → site ≤ n → (c : Cuboid) → Counts n c
