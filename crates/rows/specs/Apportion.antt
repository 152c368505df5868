-- The largest-remainder method: n floating parts of weights w 0, .., w (n - 1), which add up to W, share R millimetres.
use Rattle.std.specs.Prelude.{ℕ, ◌+◌, ◌-◌, ◌*◌, ◌/◌, ◌%◌, Bool, cond, ◌&&◌, ◌||◌, ◌==◌, nat_lt}
use Rattle.geometry.specs.Sums.{total, count}

-- a rule for ties: of n floating parts, whether j comes before i if their remainders are equal
abbrev pub TieRule : Type 0
TieRule = ℕ → ℕ → ℕ → Bool

-- the rule in force: the earlier part comes first
abbrev pub tie : TieRule
tie n j i = nat_lt j i

-- part j, of remainder a, comes before part i, of remainder b: a is larger, or equal and the rule says so
abbrev pub comes : TieRule → ℕ → ℕ → ℕ → ℕ → ℕ → Bool
comes t n a j b i = nat_lt b a || (b == a && t n j i)

-- the order of the remainders r under a rule for ties
abbrev pub before : TieRule → ℕ → (ℕ → ℕ) → ℕ → ℕ → Bool
before t n r j i = comes t n (r j) j (r i) i

-- how many of the n parts come before part i in the order b
abbrev pub rank_by : (ℕ → ℕ → Bool) → ℕ → ℕ → ℕ
rank_by b n i = count (λ j. b j i) n

-- the whole share of part i, and its remainder
abbrev pub whole : ℕ → (ℕ → ℕ) → ℕ → ℕ → ℕ
whole R w W i = (R * w i) / W

abbrev pub remainder : ℕ → (ℕ → ℕ) → ℕ → ℕ → ℕ
remainder R w W i = (R * w i) % W

-- the millimetres left when each part has its whole share
abbrev pub left_over : ℕ → (ℕ → ℕ) → ℕ → ℕ → ℕ
left_over R w W n = R - total (whole R w W) n

-- one more millimetre for a part of a rank below the millimetres left
abbrev pub extra : ℕ → ℕ → ℕ
extra rank left = cond (nat_lt rank left) 1 0

-- the length of part i where the order is b
abbrev pub floating_by : (ℕ → ℕ → Bool) → ℕ → (ℕ → ℕ) → ℕ → ℕ → ℕ → ℕ
floating_by b R w W n i = whole R w W i + extra (rank_by b n i) (left_over R w W n)

-- the length of part i
abbrev pub floating : ℕ → (ℕ → ℕ) → ℕ → ℕ → ℕ → ℕ
floating R w W n i = floating_by (before tie n (remainder R w W)) R w W n i
