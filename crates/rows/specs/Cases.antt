-- Worked cases, each by the name of what it shows.
use Rattle.std.specs.Prelude.{◌≡◌, ℕ, [], ◌∷◌, replicate, Ok, Err}
use Rattle.rows.specs.declared.size.Size.{Size}
use Rattle.rows.specs.declared.size.Size.TheVariants.{Fix, Float}
use Rattle.rows.specs.declared.refusal.RowRefusal.TheVariants.{FixedTooLong, NothingFloats, Vanishes, TooManyTiles}
use Rattle.rows.specs.Rows.{split_row, repeat_row}

abbrev fix : ℕ → Size
fix n = Fix (record { 0 = n })

abbrev float : ℕ → Size
float n = Float (record { 0 = n })

pub record WorkedCases : Type 0 where
  -- of equal remainders the earlier parts get the spare millimetres
  pub earlier_of_equal : split_row 1000 (fix 200 ∷ float 1 ∷ float 1 ∷ float 1 ∷ []) ≡ Ok (200 ∷ 267 ∷ 267 ∷ 266 ∷ [])
  -- spare millimetres go to the largest remainders
  pub largest_remainder : split_row 10 (float 1 ∷ float 2 ∷ float 4 ∷ []) ≡ Ok (1 ∷ 3 ∷ 6 ∷ [])
  -- a light part may get nothing, and is named
  pub light_part_vanishes : split_row 3 (float 1 ∷ float 9 ∷ []) ≡ Err (Vanishes 1)
  -- so may the later of two equal parts
  pub later_part_vanishes : split_row 1 (float 1 ∷ float 1 ∷ []) ≡ Err (Vanishes 2)
  -- a part beside which nothing is left vanishes; fixed parts count in its number
  pub nothing_left : split_row 200 (fix 200 ∷ float 1 ∷ []) ≡ Err (Vanishes 2)
  -- a fixed part alone fits its own length only
  pub fixed_too_long : split_row 199 (fix 200 ∷ []) ≡ Err FixedTooLong
  pub fixed_fits : split_row 200 (fix 200 ∷ []) ≡ Ok (200 ∷ [])
  pub fixed_too_short : split_row 201 (fix 200 ∷ []) ≡ Err NothingFloats
  -- the first tiles get the spare millimetres
  pub spare_to_first_tile : repeat_row 10000 900 ≡ Ok (910 ∷ replicate 10 909)
  -- a scope below half a tile is still one tile, and one and a half tiles are two
  pub at_least_one_tile : repeat_row 449 900 ≡ Ok (449 ∷ [])
  pub below_half_is_one : repeat_row 1349 900 ≡ Ok (1349 ∷ [])
  pub half_is_two : repeat_row 1350 900 ≡ Ok (675 ∷ 675 ∷ [])
  -- a row has at most 64 tiles
  pub as_many_tiles_as_may_be : repeat_row 64 1 ≡ Ok (replicate 64 1)
  pub too_many_tiles : repeat_row 65 1 ≡ Err TooManyTiles
