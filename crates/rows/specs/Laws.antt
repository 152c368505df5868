-- The laws of rows, in the words of the subject.
use Rattle.std.specs.Prelude.{◌≡◌, ℕ, ◌+◌, ◌-◌, ◌*◌, ◌<◌, ◌≤◌, Bool, true, false, ◌≢◌, List, [], ◌∷◌}
use Rattle.geometry.specs.Limits.{least}
use Rattle.geometry.specs.Sums.{total, sum_of}
use Rattle.rows.specs.declared.size.Size.{Size}
use Rattle.rows.specs.declared.size.Size.TheVariants.{Fix, Float}
use Rattle.rows.specs.Apportion.{whole, remainder, left_over, floating_by}
use Rattle.rows.specs.Rows.{fixed_sum, floats, weight_sum}

-- x times W misses R times w by less than W
abbrev pub Near : ℕ → ℕ → ℕ → ℕ → Type 0
Near R W w x = (x * W < R * w + W) × (R * w < x * W + W)

-- part by part: a fixed one has its length, and a floating one is near its share of R
abbrev pub Shared : ℕ → ℕ → List Size → List ℕ → Type 0
Shared R W [] [] = Unit {0}
Shared R W [] (x ∷ xs) = ⊥
Shared R W (s ∷ ss) [] = ⊥
Shared R W (Fix m ∷ ss) (x ∷ xs) = (x ≡ m.0) × Shared R W ss xs
Shared R W (Float w ∷ ss) (x ∷ xs) = Near R W w.0 x × Shared R W ss xs

-- no length is below the least
abbrev pub Thick : List ℕ → Type 0
Thick [] = Unit {0}
Thick (x ∷ xs) = (least ≤ x) × Thick xs

-- what holds of every row xs of parts that ask for ss in a scope of length L:
-- the lengths add up to L, each part has its length or is near its share, and none is too thin
pub record Lawful (L : ℕ) (ss : List Size) (xs : List ℕ) : Type 0 where
  pub closes : sum_of (λ x. x) xs ≡ L
  pub near : Shared (L - fixed_sum ss) (weight_sum (floats ss)) ss xs
  pub thick : Thick xs

-- b is a strict total order of the parts
pub record Strict (b : ℕ → ℕ → Bool) : Type 0 where
  pub irreflexive : (i : ℕ) → b i i ≡ false
  pub transitive : (i j k : ℕ) → b i j ≡ true → b j k ≡ true → b i k ≡ true
  pub total : (i j : ℕ) → i ≢ j → b i j ≡ false → b j i ≡ true

-- lengths x by largest remainders: whole share plus 0 or 1, as many extras as millimetres are left,
-- and none for a part without remainder
pub record LargestRemainders (R : ℕ) (w : ℕ → ℕ) (W n : ℕ) (x : ℕ → ℕ) : Type 0 where
  pub extras : ℕ → ℕ
  pub plus : (i : ℕ) → i < n → x i ≡ whole R w W i + extras i
  pub single : (i : ℕ) → i < n → extras i ≤ 1
  pub all : total extras n ≡ left_over R w W n
  pub none : (i : ℕ) → i < n → remainder R w W i ≡ 0 → extras i ≡ 0

-- every strict order that puts larger remainders first gives such lengths
abbrev pub AnyOrder : Type 0
AnyOrder = (R : ℕ) (w : ℕ → ℕ) (n : ℕ) → 0 < total w n → (b : ℕ → ℕ → Bool) → Strict b
    → ((i j : ℕ) → remainder R w (total w n) i < remainder R w (total w n) j → b j i ≡ true)
    → LargestRemainders R w (total w n) n (floating_by b R w (total w n) n)

-- and all such lengths add up to R, each near its share
abbrev pub RemaindersSuffice : Type 0
RemaindersSuffice = (R : ℕ) (w : ℕ → ℕ) (n : ℕ) → 0 < total w n → (x : ℕ → ℕ) → LargestRemainders R w (total w n) n x
    → (total x n ≡ R) × ((i : ℕ) → i < n → Near R (total w n) (w i) (x i))
