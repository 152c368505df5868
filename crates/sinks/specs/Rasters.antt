-- What a raster means.
use Rattle.std.specs.Prelude.{◌≡◌, ℕ, ◌+◌, ◌-◌, ◌*◌, ◌/◌, ◌%◌, ◌<◌, ◌≤◌, true, cond, List, slice_index}
use Rattle.geometry.specs.declared.span.Span.{Span}
use Rattle.geometry.specs.declared.cuboid.Cuboid.{Cuboid}
use Rattle.geometry.specs.declared.cell.Cell.{Cell}
use Rattle.geometry.specs.Boxes.{shared_with}
use Rattle.sinks.specs.Meaning.{Parts, in_grid, limit}
use Rattle.sinks.specs.Tallied.{count_of, volume_held}
use Rattle.sinks.specs.declared.raster.Raster.{Raster}

-- the place of a cell among the numbers
abbrev pub place_of : Cell → ℕ
place_of d = d.i + 16 * d.j + 256 * d.k

-- the cell at a place
abbrev pub cell_at : ℕ → Cell
cell_at n = record { i = n % 16; j = n / 16 % 16; k = n / 256 }

-- the volume that a box shares with the cell at a place
unfoldable pub share_at : ℕ → Cuboid → ℕ
share_at n c = shared_with 1024 (cell_at n) c

-- the first stretch of the raster's grid that a stretch reaches
abbrev pub first_of : Span → ℕ
first_of s = s.at.0 / 1024

-- the one after the last that it reaches
abbrev pub after_of : Span → ℕ
after_of s = (s.at.0 + s.size.0 - 1) / 1024 + 1

-- the numbers from lo to below hi have grown by the box's share of their cells, and the others are as they were
pub record SharedIn (lo hi : ℕ) (c : Cuboid) (xs ys : List ℕ) : Type 0 where
  pub inside : (n : ℕ) → lo ≤ n → n < hi → slice_index ys n ≡ slice_index xs n + share_at n c
  pub under : (n : ℕ) → n < lo → slice_index ys n ≡ slice_index xs n
  pub over : (n : ℕ) → hi ≤ n → slice_index ys n ≡ slice_index xs n

-- no number from lo on passes the limit
abbrev pub SmallFrom : ℕ → List ℕ → Type 0
SmallFrom lo xs = (n : ℕ) → lo ≤ n → slice_index xs n ≤ limit

-- the four parts of a raster: there is always room
abbrev pub raster_parts : Raster → Parts
raster_parts r = record { count = count_of r.tallies; volume = volume_held r.tallies; cell = λ d. cond (in_grid 1024 d) (slice_index r.cells (place_of d)) 0; room = λ _. true }
