-- Sums and counts over the numbers below a bound.
use Rattle.std.proofs.Common.{◌≡◌, ℕ, zero, suc, ◌+◌, ◌*◌, ◌<◌, ◌≤◌, Bool, true, false, cond, sym, refl, ap, ⊎_elim, add-mul, mul-zero, zero-mul, mul-add, arith}
use Rattle.std.proofs.lemmas.Bool.{cases_lt}
use Rattle.geometry.specs.Sums.{total, count}

-- a test as a number
abbrev pub one : Bool → ℕ
one b = cond b 1 0

pub one_true : (b : Bool) → b ≡ true → one b ≡ 1
one_true b e = ap one e

pub one_false : (b : Bool) → b ≡ false → one b ≡ 0
one_false b e = ap one e

pub one_le : (p q : Bool) → (p ≡ true → q ≡ true) → one p ≤ one q
one_le true q h = omega (arith, one_true q (h refl))
one_le false q h = omega arith

pub one_up : (p : Bool) → one p ≤ 1
one_up true = omega arith
one_up false = omega arith

pub total_same : (f g : ℕ → ℕ) (n : ℕ) → ((k : ℕ) → k < n → f k ≡ g k) → total f n ≡ total g n
total_same f g zero h = refl
total_same f g (suc n) h =
    let e : total f n ≡ total g n = total_same f g n (λ k l. h k (omega arith)) in
    let q : f n ≡ g n = h n (omega arith) in
    omega arith

pub total_front : (f : ℕ → ℕ) (n : ℕ) → total f (suc n) ≡ f 0 + total (λ k. f (suc k)) n
total_front f zero = omega arith
total_front f (suc n) = omega (arith, total_front f n)

pub total_plus : (f g : ℕ → ℕ) (n : ℕ) → total (λ k. f k + g k) n ≡ total f n + total g n
total_plus f g zero = refl
total_plus f g (suc n) = omega (arith, total_plus f g n)

pub total_times : (a : ℕ) (f : ℕ → ℕ) (n : ℕ) → total (λ k. a * f k) n ≡ a * total f n
total_times a f zero = sym (mul-zero a)
total_times a f (suc n) = omega (arith, total_times a f n, mul-add a (total f n) (f n))

pub times_total : (a : ℕ) (f : ℕ → ℕ) (n : ℕ) → total (λ k. f k * a) n ≡ total f n * a
times_total a f zero = sym (zero-mul a)
times_total a f (suc n) = omega (arith, times_total a f n, add-mul (total f n) (f n) a)

pub total_le : (f g : ℕ → ℕ) (n : ℕ) → ((k : ℕ) → k < n → f k ≤ g k) → total f n ≤ total g n
total_le f g zero h = omega arith
total_le f g (suc n) h =
    let e : total f n ≤ total g n = total_le f g n (λ k l. h k (omega arith)) in
    let q : f n ≤ g n = h n (omega arith) in
    omega arith

-- one term is at most the sum
pub total_part : (f : ℕ → ℕ) (n k : ℕ) → k < n → f k ≤ total f n
total_part f zero k h = omega arith
total_part f (suc n) k h =
    ⊎_elim (λ (l : k < n). omega (arith, total_part f n k l))
    (λ (g : n ≤ k). let e : f k ≡ f n = ap f (omega arith) in omega arith)
    (cases_lt k n)

pub count_le : (p q : ℕ → Bool) (n : ℕ) → ((k : ℕ) → k < n → p k ≡ true → q k ≡ true) → count p n ≤ count q n
count_le p q n h = total_le (λ k. one (p k)) (λ k. one (q k)) n (λ k l. one_le (p k) (q k) (h k l))

pub count_up : (p : ℕ → Bool) (n : ℕ) → count p n ≤ n
count_up p zero = omega arith
count_up p (suc n) = omega (arith, count_up p n, one_up (p n))
