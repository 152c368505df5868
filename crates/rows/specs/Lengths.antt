-- Lengths in an array.
use Rattle.std.specs.Prelude.{ℕ, List, slice_index_or}
use Rattle.geometry.specs.declared.units.Mm.{Mm}

-- the k-th length as a number
abbrev pub length_at : List Mm → ℕ → ℕ
length_at ms k = (slice_index_or ms k (record { 0 = 0 })).0
