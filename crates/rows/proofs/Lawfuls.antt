-- The laws of rows.
use Rattle.std.proofs.Common.{◌≡◌, ℕ, suc, ◌+◌, ◌-◌, ◌<◌, ◌≤◌, true, ◌&&◌, eqb, ltb, List, [], ◌∷◌, length, IfOk, Some, None, Ok, Err, Option, Result, sym, refl, ap, ◌∙◌, subst, inl, inr, ⊎_elim, arith}
use Rattle.std.proofs.lemmas.Bool.{cases_lt, cond-true, cond-false, lt-ltb, le-ltb, eq-eqb, and_from}
use Rattle.geometry.specs.Limits.{least}
use Rattle.geometry.specs.Sums.{total, sum_of}
use Rattle.geometry.proofs.Totals.{total_same, total_front}
use Rattle.rows.specs.declared.size.Size.{Size}
use Rattle.rows.specs.declared.size.Size.TheVariants.{Fix, Float}
use Rattle.rows.specs.declared.row.Row.{Row}
use Rattle.rows.specs.declared.refusal.RowRefusal.{RowRefusal}
use Rattle.rows.specs.declared.refusal.RowRefusal.TheVariants.{FixedTooLong, NothingFloats}
use Rattle.rows.specs.Sizes.{InRange}
use Rattle.rows.specs.Apportion.{tie, before, remainder}
use Rattle.rows.specs.Rows.{fixed_sum, floats, weight_at, weight_sum, laid, thin, unless_thin, split_row, told, told_of}
use Rattle.rows.specs.Laws.{Near, Shared, Thick, Lawful}
use Rattle.rows.proofs.Orders.{before_strict, before_larger, tie_strict}
use Rattle.rows.proofs.Remainders.{any_order, remainders_suffice}
use Rattle.rows.proofs.Fills.{Served, lengths_in, left_fits, sum_positive, split_filled}

-- a row's lengths: the fixed ones and the floating ones
laid_sum : (f : ℕ → ℕ) (k : ℕ) (ss : List Size) → sum_of (λ x. x) (laid f k ss) ≡ fixed_sum ss + total (λ j. f (k + j)) (length (floats ss))
laid_sum f k [] = refl
laid_sum f k (Fix m ∷ ss) = omega (arith, laid_sum f k ss)
laid_sum f k (Float w ∷ ss) =
    let a = total_front (λ j. f (k + j)) (length (floats ss)) in
    let z : f (k + 0) ≡ f k = ap f (omega arith) in
    let s : total (λ j. f (k + suc j)) (length (floats ss)) ≡ total (λ j. f (k + 1 + j)) (length (floats ss)) =
    total_same (λ j. f (k + suc j)) (λ j. f (k + 1 + j)) (length (floats ss)) (λ j _. ap f (omega arith)) in
    omega (arith, laid_sum f (k + 1) ss, a, z, s)

laid_shared : (R W : ℕ) (f : ℕ → ℕ) (k : ℕ) (ss : List Size) → ((j : ℕ) → j < length (floats ss) → Near R W (weight_at (floats ss) j) (f (k + j))) → Shared R W ss (laid f k ss)
laid_shared R W f k [] h = tt
laid_shared R W f k (Fix m ∷ ss) h = (refl, laid_shared R W f k ss h)
laid_shared R W f k (Float w ∷ ss) h =
    let e : k + 0 ≡ k = omega arith in (
      subst (λ (n : ℕ). Near R W w.0 (f n)) e (h 0 (omega arith)),
      laid_shared R W f (k + 1) ss
          (λ j l. let s : k + suc j ≡ k + 1 + j = omega arith in subst (λ (n : ℕ). Near R W (weight_at (floats ss) j) (f n)) s (h (suc j) (omega arith))),
    )

-- where no part is thin, no length is
laid_thick : (f : ℕ → ℕ) (k i : ℕ) (ss : List Size) → InRange ss → thin f k i ss ≡ None → Thick (laid f k ss)
laid_thick f k i [] s e = tt
laid_thick f k i (Fix m ∷ ss) s e = (s.0.0, laid_thick f k (i + 1) ss s.1 e)
laid_thick f k i (Float w ∷ ss) s e =
    ⊎_elim
    (λ (l : f k < least).
    let no : Some (i + 1) ≡ None = sym (cond-true _ _ _ (lt-ltb (f k) least l)) ∙ e in
    let z : ◌≡◌ {A = ℕ} 0 1 = cc in absurd (omega arith))
    (λ (g : least ≤ f k). (g, laid_thick f (k + 1) (i + 1) ss s.1 (sym (cond-false _ _ _ (le-ltb (f k) least g)) ∙ e)))
    (cases_lt (f k) least)

-- what a row is, where there is one
row_is : (row xs : List ℕ) (o : Option ℕ) → unless_thin row o ≡ Ok xs → (row ≡ xs) × (o ≡ None)
row_is row xs None e = (cc, refl)
row_is row xs (Some i) e = let z : ◌≡◌ {A = ℕ} 0 1 = cc in absurd (omega arith)

-- neither too long nor without a floating part
ways : (L : ℕ) (ss : List Size) (xs : List ℕ) → split_row L ss ≡ Ok xs → (fixed_sum ss ≤ L) × Served L ss
ways L ss xs e =
    ⊎_elim
    (λ (l : L < fixed_sum ss).
    let no : Err FixedTooLong ≡ Ok xs = sym (cond-true _ _ _ (lt-ltb L (fixed_sum ss) l)) ∙ e in
    let z : ◌≡◌ {A = ℕ} 0 1 = cc in absurd (omega arith))
    (λ (g : fixed_sum ss ≤ L). (
      g,
      ⊎_elim
          (λ (p : 0 < length (floats ss)). inl p)
          (λ (n : length (floats ss) ≤ 0).
          ⊎_elim
          (λ (q : 0 < L - fixed_sum ss).
          let test : (eqb (length (floats ss)) 0 && ltb 0 (L - fixed_sum ss)) ≡ true =
          and_from (eqb (length (floats ss)) 0) (ltb 0 (L - fixed_sum ss)) (eq-eqb (length (floats ss)) 0 (omega arith)) (lt-ltb 0 (L - fixed_sum ss) q) in
          let no : Err NothingFloats ≡ Ok xs = sym (cond-false _ _ _ (le-ltb L (fixed_sum ss) g) ∙ cond-true _ _ _ test) ∙ e in
          let z : ◌≡◌ {A = ℕ} 0 1 = cc in absurd (omega arith))
          (λ (q : L - fixed_sum ss ≤ 0). inr q)
          (cases_lt 0 (L - fixed_sum ss)))
          (cases_lt 0 (length (floats ss))),
    ))
    (cases_lt L (fixed_sum ss))

-- the floating lengths add up to the rest, each near its share
floating_laws : (L : ℕ) (ss : List Size) → InRange ss → 0 < length (floats ss)
    → (total (lengths_in L ss) (length (floats ss)) ≡ L - fixed_sum ss)
    × ((i : ℕ) → i < length (floats ss) → Near (L - fixed_sum ss) (weight_sum (floats ss)) (weight_at (floats ss) i) (lengths_in L ss i))
floating_laws L ss s p =
    let R : ℕ = L - fixed_sum ss in
    let w : ℕ → ℕ = weight_at (floats ss) in
    let n : ℕ = length (floats ss) in
    let r : ℕ → ℕ = remainder R w (total w n) in
    let pos = sum_positive ss s p in
    remainders_suffice R w n pos (lengths_in L ss)
    (any_order R w n pos (before tie n r) (before_strict tie n (tie_strict n) r) (before_larger tie n r))

pub rows_lawful : (L : ℕ) (ss : List Size) (xs : List ℕ) → InRange ss → split_row L ss ≡ Ok xs → Lawful L ss xs
rows_lawful L ss xs s e =
    let f = lengths_in L ss in
    let way = ways L ss xs e in
    let row = row_is (laid f 0 ss) xs (thin f 0 0 ss) (sym (split_filled L ss way.0 way.1 (left_fits L ss s way.1)) ∙ e) in
    let sums : sum_of (λ x. x) xs ≡ fixed_sum ss + total (λ j. f (0 + j)) (length (floats ss)) = ap (sum_of (λ x. x)) (sym row.0) ∙ laid_sum f 0 ss in
    let same : total (λ j. f (0 + j)) (length (floats ss)) ≡ total f (length (floats ss)) = total_same (λ j. f (0 + j)) f (length (floats ss)) (λ j _. ap f (omega arith)) in
    record {
      closes =
          ⊎_elim
          (λ (p : 0 < length (floats ss)). omega (arith, sums, same, (floating_laws L ss s p).0, way.0))
          (λ (z : length (floats ss) ≤ 0).
          let none : total f (length (floats ss)) ≡ 0 = let n0 : length (floats ss) ≡ 0 = omega arith in ap (total f) n0 in
          let q : L - fixed_sum ss ≤ 0 = ⊎_elim (λ (p : 0 < length (floats ss)). omega arith) (λ (q : L - fixed_sum ss ≤ 0). q) way.1 in
          omega (arith, sums, same, none, way.0))
          (cases_lt 0 (length (floats ss)));
      near =
          subst (λ (ys : List ℕ). Shared (L - fixed_sum ss) (weight_sum (floats ss)) ss ys) row.0
          (laid_shared (L - fixed_sum ss) (weight_sum (floats ss)) f 0 ss
          (λ j l. let e0 : j ≡ 0 + j = omega arith in
          subst (λ (n : ℕ). Near (L - fixed_sum ss) (weight_sum (floats ss)) (weight_at (floats ss) j) (f n)) e0 ((floating_laws L ss s (omega arith)).1 j l)));
      thick = subst (λ (ys : List ℕ). Thick ys) row.0 (laid_thick f 0 0 ss s row.1);
    }

-- the laws at what a call answered
pub told_lawful : (L : ℕ) (ss : List Size) (r : Result Row RowRefusal) → InRange ss → told_of r ≡ split_row L ss → IfOk r (λ row. Lawful L ss (told row))
told_lawful L ss (Ok row) s e = rows_lawful L ss (told row) s (sym e)
told_lawful L ss (Err x) s e = tt
