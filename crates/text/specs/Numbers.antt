-- Numbers in decimal.
use Rattle.std.specs.Prelude.{◌≡◌, ℕ, ◌+◌, ◌-◌, ◌*◌, ◌≤◌, Bool, cond, not, ◌&&◌, ◌||◌, List, [], ◌∷◌, length, Some, None, decimal, Option, ◌==◌, ◌≢◌, nat_le, slice_index}
use Rattle.std.specs.Str.{bytes_eq}
use Rattle.text.specs.Bytes.{is_digit}

-- the value of digits after n; 48 is the digit 0
unfoldable pub value_from : ℕ → List ℕ → ℕ
value_from n [] = n
value_from n (b ∷ bs) = value_from (n * 10 + (b - 48)) bs

-- w is what is written of a number from low to high
unfoldable pub in_range : ℕ → ℕ → List ℕ → Bool
in_range low high w = bytes_eq w (decimal (value_from 0 w)) && (nat_le low (value_from 0 w) && nat_le (value_from 0 w) high)

-- the number from low to high that a word is, if there is one
unfoldable pub number_in : ℕ → ℕ → List ℕ → Option ℕ
number_in low high w = cond (in_range low high w) (Some (value_from 0 w)) None

-- in plain words: the number lies from low to high and the word is its decimal; or there is no such number
abbrev pub NumberIn : ℕ → ℕ → List ℕ → Option ℕ → Type 0
NumberIn low high w (Some n) = (low ≤ n) × (n ≤ high) × (w ≡ decimal n)
NumberIn low high w None = (n : ℕ) → low ≤ n → n ≤ high → w ≢ decimal n

-- a word has a byte, and the digit 0 at its start only where it has no other
abbrev pub good_start : List ℕ → Bool
good_start w = nat_le 1 (length w) && (not (slice_index w 0 == 48) || length w == 1)

-- the value of n and one digit more, if it is at most high
abbrev pub digit_more : ℕ → ℕ → ℕ → Option ℕ
digit_more high n b = cond (is_digit b) (cond (nat_le (n * 10 + (b - 48)) high) (Some (n * 10 + (b - 48))) None) None

-- the value of digits after n, as one pass finds it, if it is at most high
abbrev pub reading : ℕ → ℕ → List ℕ → Option ℕ
reading high n [] = Some n
reading high n (b ∷ bs) = elim (digit_more high n b) [ None ↦ None | Some m ↦ reading high m bs ]
