-- Equal tiles: their remainders are equal, so the rule for ties alone gives their ranks.
use Rattle.std.proofs.Common.{◌≡◌, ℕ, zero, suc, ◌+◌, ◌-◌, ◌*◌, ◌/◌, ◌%◌, ◌<◌, ◌≤◌, min, ltb, ◌∷◌, length, replicate, sym, refl, ap, ◌∙◌, inl, ⊎_elim, mul_comm, arith}
use native.Mathlib.Nat.{div-add-mod}
use Rattle.std.proofs.lemmas.Bool.{cases_lt, lt-ltb, le-ltb}
use Rattle.geometry.specs.Sums.{total, count}
use Rattle.geometry.proofs.Totals.{one, one_true, one_false, total_same}
use Rattle.rows.specs.Sizes.{InRange}
use Rattle.rows.specs.Apportion.{tie, before, rank_by, whole, remainder, left_over, floating}
use Rattle.rows.specs.Rows.{fixed_sum, floats, weight_at, weight_sum, filled, split_row, tile_size}
use Rattle.rows.specs.Tiles.{tile_rank, tile_length}
use Rattle.rows.proofs.Orders.{comes_equal}
use Rattle.rows.proofs.Fills.{lengths_in, left_fits, split_row_lem}

-- under the rule in force the tiles before tile i come first
pub tie_rank : (n i : ℕ) → i < n → count (λ j. tie n j i) n ≡ tile_rank n i
tie_rank n i h = omega (arith, below n)
  where
    below : (m : ℕ) → count (λ j. ltb j i) m ≡ min i m
    below zero = omega arith
    below (suc m) =
        ⊎_elim
        (λ (l : m < i). omega (arith, below m, one_true (ltb m i) (lt-ltb m i l)))
        (λ (g : i ≤ m). omega (arith, below m, one_false (ltb m i) (le-ltb m i g)))
        (cases_lt m i)

total_const : (a n : ℕ) → total (λ _. a) n ≡ n * a
total_const a zero = omega arith
total_const a (suc n) = omega (arith, total_const a n, mul_comm (suc n) a, mul_comm n a)

module _ (L n : ℕ) (w : ℕ → ℕ) (ones : (k : ℕ) → k < n → w k ≡ 1) where
  wholes_equal : (k : ℕ) → k < n → whole L w n k ≡ (L * 1) / n
  wholes_equal k h = ap (λ x. (L * x) / n) (ones k h)

  remainders_equal : (k : ℕ) → k < n → remainder L w n k ≡ (L * 1) % n
  remainders_equal k h = ap (λ x. (L * x) % n) (ones k h)

  left_is : left_over L w n n ≡ (L * 1) % n
  left_is =
      let same = total_same (whole L w n) (λ _. (L * 1) / n) n wholes_equal in
      omega (arith, same, total_const ((L * 1) / n) n, div-add-mod (L * 1) n)

  rank_is : (i : ℕ) → i < n → rank_by (before tie n (remainder L w n)) n i ≡ tile_rank n i
  rank_is i h =
      total_same (λ j. one (before tie n (remainder L w n) j i)) (λ j. one (tie n j i)) n
      (λ j l. ap one (comes_equal tie n (remainder L w n j) j (remainder L w n i) i (remainders_equal j l ∙ sym (remainders_equal i h))))
      ∙ tie_rank n i h

  tile_floating : (i : ℕ) → i < n → floating L w n n i ≡ tile_length L n i
  tile_floating i h =
      let a = wholes_equal i h in
      let b = rank_is i h in
      let d = left_is in
      cc

fixed_tiles : (n : ℕ) → fixed_sum (replicate n tile_size) ≡ 0
fixed_tiles zero = refl
fixed_tiles (suc n) = fixed_tiles n

count_tiles : (n : ℕ) → length (floats (replicate n tile_size)) ≡ n
count_tiles zero = refl
count_tiles (suc n) = ap suc (count_tiles n)

weigh_tiles : (n k : ℕ) → k < n → weight_at (floats (replicate n tile_size)) k ≡ 1
weigh_tiles zero k h = omega arith
weigh_tiles (suc n) zero h = refl
weigh_tiles (suc n) (suc k) h = weigh_tiles n k (omega arith)

sum_tiles : (n : ℕ) → weight_sum (floats (replicate n tile_size)) ≡ n
sum_tiles n =
    ap (total (weight_at (floats (replicate n tile_size)))) (count_tiles n)
    ∙ total_same (weight_at (floats (replicate n tile_size))) (λ _. 1) n (weigh_tiles n)
    ∙ omega (arith, total_const 1 n)

pub tiles_sound : (n : ℕ) → InRange (replicate n tile_size)
tiles_sound zero = tt
tiles_sound (suc n) = ((omega arith, omega arith), tiles_sound n)

tile_lengths : (L n i : ℕ) → i < n → lengths_in L (replicate n tile_size) i ≡ tile_length L n i
tile_lengths L n i h =
    let w = weight_at (floats (replicate n tile_size)) in
    let rest : L - fixed_sum (replicate n tile_size) ≡ L = omega (arith, fixed_tiles n) in
    ap (λ R. floating R w (weight_sum (floats (replicate n tile_size))) (length (floats (replicate n tile_size))) i) rest
    ∙ ap (λ W. floating L w W (length (floats (replicate n tile_size))) i) (sum_tiles n)
    ∙ ap (λ m. floating L w n m i) (count_tiles n)
    ∙ tile_floating L n w (weigh_tiles n) i h

-- the row of n tiles is filled by their lengths
pub tiles_row : (L n : ℕ) → 0 < n → filled (tile_length L n) (replicate n tile_size) ≡ split_row L (replicate n tile_size)
tiles_row L n some =
    let floats-some : 0 < length (floats (replicate n tile_size)) = omega (arith, count_tiles n) in
    split_row_lem L (replicate n tile_size) (omega (arith, fixed_tiles n)) (inl floats-some)
    (left_fits L (replicate n tile_size) (tiles_sound n) (inl floats-some))
    (tile_length L n) (λ k h. sym (tile_lengths L n k (omega (arith, count_tiles n))))

-- one tile and the rest
pub tile_next : (n i : ℕ) → i < n → replicate (n - i) tile_size ≡ tile_size ∷ replicate (n - (i + 1)) tile_size
tile_next n i h = let e : n - i ≡ suc (n - (i + 1)) = omega arith in ap (λ m. replicate m tile_size) e
