-- Under any strict total order, exactly min k n of the indices below n have a rank below k.
use Rattle.std.proofs.Common.{◌≡◌, ℕ, zero, suc, ◌-◌, ◌<◌, ◌≤◌, min, Bool, true, false, ltb, ◌⊎◌, sym, ap, ◌∙◌, inl, inr, ⊎_elim, arith}
use Rattle.std.proofs.lemmas.Bool.{cases_lt, cases_Bool, lt-ltb, le-ltb}
use Rattle.geometry.specs.Sums.{count}
use Rattle.geometry.proofs.Totals.{one, one_true, one_false, one_le, total_same, count_le, count_up}
use Rattle.rows.specs.Apportion.{TieRule, comes, before, rank_by}
use Rattle.rows.specs.Laws.{Strict}

count_lt : (p q : ℕ → Bool) (n i : ℕ) → ((k : ℕ) → k < n → p k ≡ true → q k ≡ true) → i < n → p i ≡ false → q i ≡ true → count p n < count q n
count_lt p q zero i h l a b = omega arith
count_lt p q (suc n) i h l a b =
    ⊎_elim
    (λ (lt : i < n). omega (arith, count_lt p q n i (λ k m. h k (omega arith)) lt a b, one_le (p n) (q n) (h n (omega arith))))
    (λ (ge : n ≤ i).
    let e : i ≡ n = omega arith in
    let a' : p n ≡ false = rw e at a in
    let b' : q n ≡ true = rw e at b in
    omega (arith, count_le p q n (λ k m. h k (omega arith)), one_false (p n) a', one_true (q n) b'))
    (cases_lt i n)

-- the rank looks only at the remainders of the n parts
pub rank_same : (t : TieRule) (n : ℕ) (r q : ℕ → ℕ) (i : ℕ) → i < n → ((k : ℕ) → k < n → r k ≡ q k) → rank_by (before t n r) n i ≡ rank_by (before t n q) n i
rank_same t n r q i l same =
    total_same (λ j. one (before t n r j i)) (λ j. one (before t n q j i)) n
    (λ j h. ap (λ x. one (comes t n x j (r i) i)) (same j h) ∙ ap (λ y. one (comes t n (q j) j y i)) (same i l))

module _ (b : ℕ → ℕ → Bool) (s : Strict b) where
  -- an index i below m against m: m comes before i exactly if its rank is at most that of i
  against : (m i : ℕ) → i < m → ((b m i ≡ true) × (rank_by b m m ≤ rank_by b m i)) ⊎ ((b m i ≡ false) × (rank_by b m i < rank_by b m m))
  against m i l =
      ⊎_elim
      (λ (t : b m i ≡ true). inl (t, count_le (λ j. b j m) (λ j. b j i) m (λ k _ e. s.transitive k m i e t)))
      (λ (f : b m i ≡ false).
      let g : b i m ≡ true = s.total m i (λ e. omega arith) f in
      inr (f, count_lt (λ j. b j i) (λ j. b j m) m i (λ k _ e. s.transitive k i m e g) l (s.irreflexive i) g))
      (cases_Bool (b m i))

  pub ranked : (n k : ℕ) → count (λ i. ltb (rank_by b n i) k) n ≡ min k n
  ranked zero k = omega arith
  ranked (suc m) k =
      let self : one (b m m) ≡ 0 = one_false (b m m) (s.irreflexive m) in
      let top : rank_by b m m ≤ m = count_up (λ j. b j m) m in
      ⊎_elim
      (λ (high : rank_by b m m < k).
      let same : count (λ i. ltb (rank_by b (suc m) i) k) m ≡ count (λ i. ltb (rank_by b m i) (k - 1)) m =
      total_same (λ i. one (ltb (rank_by b (suc m) i) k)) (λ i. one (ltb (rank_by b m i) (k - 1))) m
      (λ i l. ap one (⊎_elim
      (λ h. let u : one (b m i) ≡ 1 = one_true (b m i) h.0 in
      ⊎_elim
      (λ (lt : rank_by b m i < k - 1). lt-ltb (rank_by b (suc m) i) k (omega arith) ∙ sym (lt-ltb (rank_by b m i) (k - 1) lt))
      (λ (ge : k - 1 ≤ rank_by b m i). le-ltb (rank_by b (suc m) i) k (omega arith) ∙ sym (le-ltb (rank_by b m i) (k - 1) ge))
      (cases_lt (rank_by b m i) (k - 1)))
      (λ h. let u : one (b m i) ≡ 0 = one_false (b m i) h.0 in
      lt-ltb (rank_by b (suc m) i) k (omega (arith, h.1)) ∙ sym (lt-ltb (rank_by b m i) (k - 1) (omega (arith, h.1))))
      (against m i l))) in
      let last : one (ltb (rank_by b (suc m) m) k) ≡ 1 = one_true (ltb (rank_by b (suc m) m) k) (lt-ltb (rank_by b (suc m) m) k (omega arith)) in
      omega (arith, ranked m (k - 1)))
      (λ (low : k ≤ rank_by b m m).
      let same : count (λ i. ltb (rank_by b (suc m) i) k) m ≡ count (λ i. ltb (rank_by b m i) k) m =
      total_same (λ i. one (ltb (rank_by b (suc m) i) k)) (λ i. one (ltb (rank_by b m i) k)) m
      (λ i l. ap one (⊎_elim
      (λ h. let u : one (b m i) ≡ 1 = one_true (b m i) h.0 in
      le-ltb (rank_by b (suc m) i) k (omega (arith, h.1)) ∙ sym (le-ltb (rank_by b m i) k (omega (arith, h.1))))
      (λ h. let u : one (b m i) ≡ 0 = one_false (b m i) h.0 in ap (λ z. ltb z k) (omega arith))
      (against m i l))) in
      let last : one (ltb (rank_by b (suc m) m) k) ≡ 0 = one_false (ltb (rank_by b (suc m) m) k) (le-ltb (rank_by b (suc m) m) k (omega arith)) in
      omega (arith, ranked m k))
      (cases_lt (rank_by b m m) k)
