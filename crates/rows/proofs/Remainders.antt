-- What follows from largest remainders alone.
use Rattle.std.proofs.Common.{◌≡◌, ℕ, zero, suc, ◌+◌, ◌-◌, ◌*◌, ◌<◌, ◌≤◌, Bool, true, ltb, refl, ap, ◌∙◌, ⊎_elim, mod-lt, mul_comm, add-mul, mul-le-mul_left, arith}
use native.Mathlib.Nat.{div-add-mod, mul-sub, le_of_mul-le-mul_left, lt_of_mul-lt-mul_left}
use Rattle.std.proofs.lemmas.Bool.{cases_lt, lt-ltb, le-ltb, ltb-true}
use Rattle.geometry.specs.Sums.{total, count}
use Rattle.geometry.proofs.Totals.{one, one_true, one_false, one_up, total_same, total_le, total_plus, total_times, count_le, count_up}
use Rattle.rows.specs.Apportion.{rank_by, whole, remainder, left_over, extra}
use Rattle.rows.specs.Laws.{Near, AnyOrder, RemaindersSuffice}
use Rattle.rows.proofs.Ranks.{ranked}

total_some : (w : ℕ → ℕ) (n : ℕ) → 0 < total w n → 0 < n
total_some w zero h = omega arith
total_some w (suc n) h = omega arith

module _ (R : ℕ) (w : ℕ → ℕ) (n : ℕ) (pos : 0 < total w n) where
  -- the whole shares times the weight sum, and the remainders, add up to R times the weight sum
  parted : total w n * total (whole R w (total w n)) n + total (remainder R w (total w n)) n ≡ R * total w n
  parted =
      let each = total_same (λ k. total w n * whole R w (total w n) k + remainder R w (total w n) k) (λ k. R * w k) n (λ k _. div-add-mod (R * w k) (total w n)) in
      let sums = total_plus (λ k. total w n * whole R w (total w n) k) (remainder R w (total w n)) n in
      omega (arith, each, sums, total_times (total w n) (whole R w (total w n)) n, total_times R w n)

  pub wholes_le : total (whole R w (total w n)) n ≤ R
  wholes_le =
      let h : total w n * total (whole R w (total w n)) n ≤ total w n * R = omega (arith, parted, mul_comm R (total w n)) in
      le_of_mul-le-mul_left h pos

  -- the remainders add up to the weight sum times the millimetres left
  remainders : total (remainder R w (total w n)) n ≡ total w n * left_over R w (total w n) n
  remainders =
      omega (arith, parted, mul_comm R (total w n), mul-sub (total w n) R (total (whole R w (total w n)) n))

  -- how many remainders are not 0
  abbrev positive : ℕ
  positive = count (λ j. ltb 0 (remainder R w (total w n) j)) n

  remainder_le : (j : ℕ) → remainder R w (total w n) j ≤ (total w n - 1) * one (ltb 0 (remainder R w (total w n) j))
  remainder_le j =
      let m : remainder R w (total w n) j < total w n = mod-lt (R * w j) pos in
      ⊎_elim
      (λ (t : 0 < remainder R w (total w n) j).
      let e : one (ltb 0 (remainder R w (total w n) j)) ≡ 1 = one_true (ltb 0 (remainder R w (total w n) j)) (lt-ltb 0 (remainder R w (total w n) j) t) in
      rw e (omega arith))
      (λ (z : remainder R w (total w n) j ≤ 0). omega arith)
      (cases_lt 0 (remainder R w (total w n) j))

  left_le : total w n * left_over R w (total w n) n ≤ (total w n - 1) * positive
  left_le =
      let a = total_le (remainder R w (total w n)) (λ j. (total w n - 1) * one (ltb 0 (remainder R w (total w n) j))) n (λ j _. remainder_le j) in
      omega (arith, remainders, a, total_times (total w n - 1) (λ j. one (ltb 0 (remainder R w (total w n) j))) n)

  split_sum : (x : ℕ) → total w n * x ≡ (total w n - 1) * x + x
  split_sum x =
      let e : total w n ≡ (total w n - 1) + 1 = omega arith in
      ap (λ z. z * x) e ∙ omega (arith, add-mul (total w n - 1) 1 x)

  -- no more millimetres are left than parts have a remainder
  left_positive : left_over R w (total w n) n ≤ positive
  left_positive =
      let h : total w n * left_over R w (total w n) n ≤ total w n * positive = omega (arith, left_le, split_sum positive) in
      le_of_mul-le-mul_left h pos

  -- fewer millimetres are left than parts float
  pub left_few : left_over R w (total w n) n < n
  left_few =
      let p : positive ≤ n = count_up (λ j. ltb 0 (remainder R w (total w n) j)) n in
      let m : (total w n - 1) * positive ≤ (total w n - 1) * n = mul-le-mul_left (total w n - 1) p in
      let s : 0 < n = total_some w n pos in
      lt_of_mul-lt-mul_left (total w n) (omega (arith, left_le, split_sum n))

  -- a part without remainder has a rank past the millimetres left
  no_extra : (b : ℕ → ℕ → Bool) → ((i j : ℕ) → remainder R w (total w n) i < remainder R w (total w n) j → b j i ≡ true)
      → (i : ℕ) → remainder R w (total w n) i ≡ 0 → extra (rank_by b n i) (left_over R w (total w n) n) ≡ 0
  no_extra b larger i z =
      let ranks : positive ≤ rank_by b n i =
      count_le (λ j. ltb 0 (remainder R w (total w n) j)) (λ j. b j i) n
      (λ j _ h. larger i j (omega (arith, z, ltb-true 0 (remainder R w (total w n) j) h))) in
      one_false (ltb (rank_by b n i) (left_over R w (total w n) n)) (le-ltb (rank_by b n i) (left_over R w (total w n) n) (omega (arith, left_positive)))

  -- x times the weight sum, where x is the whole share and one more or none
  pub near_share : (i x e : ℕ) → x ≡ whole R w (total w n) i + e → e ≤ 1 → (remainder R w (total w n) i ≡ 0 → e ≡ 0) → Near R (total w n) (w i) x
  near_share i x e is up none =
      let m : remainder R w (total w n) i < total w n = mod-lt (R * w i) pos in
      let d : total w n * whole R w (total w n) i + remainder R w (total w n) i ≡ R * w i = div-add-mod (R * w i) (total w n) in
      let c : whole R w (total w n) i * total w n ≡ total w n * whole R w (total w n) i = mul_comm (whole R w (total w n) i) (total w n) in
      let y : x * total w n ≡ whole R w (total w n) i * total w n + e * total w n = ap (λ z. z * total w n) is ∙ add-mul (whole R w (total w n) i) e (total w n) in
      ⊎_elim
      (λ (s : 0 < e).
      let f : e * total w n ≡ total w n = let g : e ≡ 1 = omega arith in ap (λ z. z * total w n) g ∙ omega arith in
      let z : 0 < remainder R w (total w n) i =
      ⊎_elim (λ (p : 0 < remainder R w (total w n) i). p)
      (λ (p : remainder R w (total w n) i ≤ 0). omega (arith, none (omega arith)))
      (cases_lt 0 (remainder R w (total w n) i)) in
      (omega arith, omega arith))
      (λ (s : e ≤ 0).
      let f : e * total w n ≡ 0 = let g : e ≡ 0 = omega arith in ap (λ z. z * total w n) g ∙ omega arith in
      (omega arith, omega arith))
      (cases_lt 0 e)

pub any_order : AnyOrder
any_order R w n pos b s larger = record {
  extras = λ i. extra (rank_by b n i) (left_over R w (total w n) n);
  plus = λ i _. refl;
  single = λ i _. one_up (ltb (rank_by b n i) (left_over R w (total w n) n));
  all = omega (arith, ranked b s n (left_over R w (total w n) n), left_few R w n pos);
  none = λ i _ z. no_extra R w n pos b larger i z;
}

pub remainders_suffice : RemaindersSuffice
remainders_suffice R w n pos x l = (
  total_same x (λ i. whole R w (total w n) i + l.extras i) n l.plus
      ∙ omega (arith, total_plus (whole R w (total w n)) l.extras n, l.all, wholes_le R w n pos),
  λ i h. near_share R w n pos i (x i) (l.extras i) (l.plus i h) (l.single i h) (l.none i h),
)
