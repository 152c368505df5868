-- Volumes as numbers of cubes.
use Rattle.std.proofs.Common.{◌≡◌, ℕ, zero, suc, ◌+◌, ◌-◌, ◌*◌, ◌<◌, ◌≤◌, min, max, Bool, true, false, ◌&&◌, ltb, leb, sym, ap, ◌∙◌, ⊎_elim, mul_assoc, add-mul, arith}
use Rattle.std.proofs.lemmas.Bool.{cases_lt}
use Rattle.std.proofs.lemmas.Bool.Decides.{nat_tests}
use Rattle.geometry.specs.declared.span.Span.{Span}
use Rattle.geometry.specs.Limits.{site}
use Rattle.geometry.specs.Sums.{total, count}
use Rattle.geometry.specs.Boxes.{overlap}
use Rattle.geometry.specs.Laws.{holds, grid_holds, cubes, VolumesCount}
use Rattle.geometry.proofs.Totals.{one, total_same, total_times, times_total}

-- how many numbers below n lie from l to h
abbrev in_range : ℕ → ℕ → ℕ → Bool
in_range l h a = leb l a && ltb a h

in_yes : (l h a : ℕ) → l ≤ a → a < h → in_range l h a ≡ true
in_yes l h a p q = grind (arith, nat_tests)

in_low : (l h a : ℕ) → a < l → in_range l h a ≡ false
in_low l h a p = grind (arith, nat_tests)

in_high : (l h a : ℕ) → h ≤ a → in_range l h a ≡ false
in_high l h a p = grind (arith, nat_tests)

range_count : (l h n : ℕ) → count (in_range l h) n ≡ min h n - l
range_count l h zero = omega arith
range_count l h (suc n) =
    ⊎_elim
    (λ (p : n < l). omega (arith, range_count l h n, ap one (in_low l h n p)))
    (λ (p : l ≤ n).
    ⊎_elim
    (λ (q : n < h). omega (arith, range_count l h n, ap one (in_yes l h n p q)))
    (λ (q : h ≤ n). omega (arith, range_count l h n, ap one (in_high l h n q)))
    (cases_lt n h))
    (cases_lt n l)

-- both of two ranges are one range
both : (l h k m a : ℕ) → (in_range l h a && in_range k m a) ≡ in_range (max k l) (min m h) a
both l h k m a = grind (arith, nat_tests)

span_count : (n : ℕ) → site ≤ n → (s : Span) → s.size.0 ≡ count (holds s) n
span_count n big s = omega (arith, range_count s.at.0 (s.at.0 + s.size.0) n, s.inside)

overlap_count : (n : ℕ) → site ≤ n → (e i : ℕ) (s : Span) → overlap e i s ≡ count (λ a. holds s a && grid_holds e i a) n
overlap_count n big e i s =
    let t : (i + 1) * e ≡ i * e + e = omega (arith, add-mul i 1 e) in
    let l : ℕ = max (i * e) s.at.0 in
    let h : ℕ = min ((i + 1) * e) (s.at.0 + s.size.0) in
    let c : count (λ a. holds s a && grid_holds e i a) n ≡ count (in_range l h) n =
    total_same (λ a. one (holds s a && grid_holds e i a)) (λ a. one (in_range l h a)) n
    (λ a _. ap one (both s.at.0 (s.at.0 + s.size.0) (i * e) ((i + 1) * e) a)) in
    omega (arith, range_count l h n, c, s.inside)

-- the number of cubes is the product of the numbers on the axes
one_and : (p q : Bool) → one (p && q) ≡ one p * one q
one_and true q = omega arith
one_and false q = omega arith

cubes_product : (n : ℕ) (p q r : ℕ → Bool) → cubes n p q r ≡ count p n * count q n * count r n
cubes_product n p q r =
    let inner : (a b : ℕ) → total (λ c. one (p a && (q b && r c))) n ≡ one (p a) * (one (q b) * count r n) = λ a b.
    total_same (λ c. one (p a && (q b && r c))) (λ c. one (p a) * (one (q b) * one (r c))) n
    (λ c _. one_and (p a) (q b && r c) ∙ ap (λ x. one (p a) * x) (one_and (q b) (r c)))
    ∙ total_times (one (p a)) (λ c. one (q b) * one (r c)) n
    ∙ ap (λ x. one (p a) * x) (total_times (one (q b)) (λ c. one (r c)) n) in
    let middle : (a : ℕ) → total (λ b. total (λ c. one (p a && (q b && r c))) n) n ≡ one (p a) * (count q n * count r n) = λ a.
    total_same (λ b. total (λ c. one (p a && (q b && r c))) n) (λ b. one (p a) * (one (q b) * count r n)) n (λ b _. inner a b)
    ∙ total_times (one (p a)) (λ b. one (q b) * count r n) n
    ∙ ap (λ x. one (p a) * x) (times_total (count r n) (λ b. one (q b)) n) in
    total_same (λ a. total (λ b. total (λ c. one (p a && (q b && r c))) n) n) (λ a. one (p a) * (count q n * count r n)) n (λ a _. middle a)
    ∙ times_total (count q n * count r n) (λ a. one (p a)) n
    ∙ sym (mul_assoc _ _ _)

product_same : (a b c x y z : ℕ) → a ≡ x → b ≡ y → c ≡ z → a * b * c ≡ x * y * z
product_same a b c x y z p q r = cc

pub volumes_count : VolumesCount
volumes_count n big c = record {
  whole =
      product_same _ _ _ _ _ _ (span_count n big c.x) (span_count n big c.y) (span_count n big c.z)
      ∙ sym (cubes_product n (holds c.x) (holds c.y) (holds c.z));
  cells = λ e d.
      product_same _ _ _ _ _ _ (overlap_count n big e d.i c.x) (overlap_count n big e d.j c.y) (overlap_count n big e d.k c.z)
      ∙ sym (cubes_product n (λ a. holds c.x a && grid_holds e d.i a) (λ a. holds c.y a && grid_holds e d.j a) (λ a. holds c.z a && grid_holds e d.k a));
}
