-- The lengths of equal tiles, without ranks.
use Rattle.std.specs.Prelude.{ℕ, ◌+◌, ◌*◌, ◌/◌, ◌%◌}
use Rattle.rows.specs.Apportion.{extra}

-- how many of n tiles come before tile i: what the rule for ties says where all remainders are equal
abbrev pub tile_rank : ℕ → ℕ → ℕ
tile_rank n i = i

-- the length of tile i of n in L
abbrev pub tile_length : ℕ → ℕ → ℕ → ℕ
tile_length L n i = (L * 1) / n + extra (tile_rank n i) ((L * 1) % n)
