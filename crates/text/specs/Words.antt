-- Names and axes.
use Rattle.std.specs.Prelude.{ℕ, Bool, false, ◌&&◌, ◌||◌, List, [], ◌∷◌, length, ◌==◌, nat_le, slice_index}
use Rattle.text.specs.Bytes.{is_letter}

-- the most bytes of a name
abbrev pub name_limit : ℕ
name_limit = 16

-- 1 to 16 bytes, the first a letter
abbrev pub good_name : List ℕ → Bool
good_name w = nat_le 1 (length w) && (nat_le (length w) name_limit && is_letter (slice_index w 0))

-- one byte: x, y or z
abbrev pub is_axis : List ℕ → Bool
is_axis [] = false
is_axis (b ∷ []) = b == 120 || (b == 121 || b == 122)
is_axis (b ∷ c ∷ bs) = false
