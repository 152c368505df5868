-- The row of a split and of a repeat.
use Rattle.std.specs.Prelude.{ℕ, ◌+◌, ◌-◌, ◌*◌, ◌/◌, max, cond, ◌&&◌, List, [], ◌∷◌, map, length, replicate, Some, None, Ok, Err, Option, Result, ◌==◌, nat_lt, slice_index_or}
use Rattle.bounded.specs.Listed.{listed}
use Rattle.geometry.specs.declared.units.Weight.{Weight}
use Rattle.geometry.specs.Limits.{least}
use Rattle.geometry.specs.Sums.{total}
use Rattle.rows.specs.declared.size.Size.{Size}
use Rattle.rows.specs.declared.size.Size.TheVariants.{Fix, Float}
use Rattle.rows.specs.declared.part.Part.{Part}
use Rattle.rows.specs.declared.parts.Parts.{Parts}
use Rattle.rows.specs.declared.row.Segment.{Segment}
use Rattle.rows.specs.declared.row.Row.{Row}
use Rattle.rows.specs.declared.refusal.RowRefusal.{RowRefusal}
use Rattle.rows.specs.declared.refusal.RowRefusal.TheVariants.{FixedTooLong, NothingFloats, Vanishes, TooManyTiles, SpareLeft}
use Rattle.rows.specs.Apportion.{left_over, floating}

-- what a list of parts asks for
abbrev pub sizes : List Part → List Size
sizes ps = map (λ p. p.size) ps

-- the parts that a split holds
abbrev pub parts_of : Parts → List Part
parts_of ps = listed ps.parts

-- the sum of the fixed lengths
abbrev pub fixed_sum : List Size → ℕ
fixed_sum [] = 0
fixed_sum (Fix m ∷ ss) = m.0 + fixed_sum ss
fixed_sum (Float w ∷ ss) = fixed_sum ss

-- the weights of the floating parts, and the k-th of some weights as a number
abbrev pub floats : List Size → List Weight
floats [] = []
floats (Fix m ∷ ss) = floats ss
floats (Float w ∷ ss) = w ∷ floats ss

abbrev pub weight_at : List Weight → ℕ → ℕ
weight_at ws k = (slice_index_or ws k (record { 0 = 0 })).0

-- the sum of the weights
abbrev pub weight_sum : List Weight → ℕ
weight_sum ws = total (weight_at ws) (length ws)

-- the lengths, where the floating parts from the k-th on have f k, f (k + 1), ..
abbrev pub laid : (ℕ → ℕ) → ℕ → List Size → List ℕ
laid f k [] = []
laid f k (Fix m ∷ ss) = m.0 ∷ laid f k ss
laid f k (Float w ∷ ss) = f k ∷ laid f (k + 1) ss

-- the number of the first floating part that ends below the least length, where i parts stand before these
abbrev pub thin : (ℕ → ℕ) → ℕ → ℕ → List Size → Option ℕ
thin f k i [] = None
thin f k i (Fix m ∷ ss) = thin f k (i + 1) ss
thin f k i (Float w ∷ ss) = cond (nat_lt (f k) least) (Some (i + 1)) (thin f (k + 1) (i + 1) ss)

abbrev pub unless_thin : List ℕ → Option ℕ → Result (List ℕ) RowRefusal
unless_thin row None = Ok row
unless_thin row (Some i) = Err (Vanishes i)

-- the row in which the floating parts have the lengths f
abbrev pub filled : (ℕ → ℕ) → List Size → Result (List ℕ) RowRefusal
filled f ss = unless_thin (laid f 0 ss) (thin f 0 0 ss)

-- the row where R is left beside the fixed parts and n parts of weights w, which add up to W, float
abbrev pub shared : ℕ → List Size → ℕ → (ℕ → ℕ) → ℕ → Result (List ℕ) RowRefusal
shared R ss n w W =
    cond (n == 0 && nat_lt 0 R) (Err NothingFloats)
    (cond (nat_lt n (left_over R w W n)) (Err SpareLeft)
    (filled (floating R w W n) ss))

-- the row of a split in a scope of length L
abbrev pub split_row : ℕ → List Size → Result (List ℕ) RowRefusal
split_row L ss =
    cond (nat_lt L (fixed_sum ss)) (Err FixedTooLong)
    (shared (L - fixed_sum ss) ss (length (floats ss)) (weight_at (floats ss)) (weight_sum (floats ss)))

-- the number of tiles of length N in L: rounded to the nearest, halves up, and at least 1
abbrev pub tiles : ℕ → ℕ → ℕ
tiles L N = max ((2 * L + N) / (2 * N)) 1

-- the most tiles of a row
abbrev pub most_tiles : ℕ
most_tiles = 64

-- a tile is a floating part of weight 1
abbrev pub tile_size : Size
tile_size = Float (record { 0 = 1 })

-- the row of a repeat with tile N in a scope of length L
abbrev pub repeat_row : ℕ → ℕ → Result (List ℕ) RowRefusal
repeat_row L N = cond (nat_lt most_tiles (tiles L N)) (Err TooManyTiles) (split_row L (replicate (tiles L N) tile_size))

-- the lengths that some segments tell, and those of a row
abbrev pub lengths_of : List Segment → List ℕ
lengths_of gs = map (λ g. g.length.0) gs

abbrev pub segments_of : Row → List Segment
segments_of r = listed r.segments

abbrev pub told : Row → List ℕ
told r = lengths_of (segments_of r)

abbrev pub told_of : Result Row RowRefusal → Result (List ℕ) RowRefusal
told_of (Ok r) = Ok (told r)
told_of (Err e) = Err e

-- the number of each refusal, and the part that it names, 0 if none
abbrev pub number : RowRefusal → ℕ
number FixedTooLong = 31
number NothingFloats = 32
number (Vanishes _) = 33
number TooManyTiles = 34
number SpareLeft = 36

abbrev pub part_named : RowRefusal → ℕ
part_named FixedTooLong = 0
part_named NothingFloats = 0
part_named (Vanishes i) = i
part_named TooManyTiles = 0
part_named SpareLeft = 0
