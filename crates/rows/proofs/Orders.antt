-- The order of remainders is strict and total, and puts larger remainders first, under every strict rule for ties.
use Rattle.std.proofs.Common.{◌≡◌, ℕ, ◌<◌, ◌≤◌, Bool, true, false, ◌&&◌, ◌||◌, eqb, ltb, ◌≢◌, ◌⊎◌, sym, ◌∙◌, inl, inr, ⊎_elim, arith}
use Rattle.std.proofs.lemmas.Bool.{cases_lt}
use Rattle.std.proofs.lemmas.Bool.Decides.{nat_tests}
use Rattle.rows.specs.Apportion.{TieRule, tie, comes, before}
use Rattle.rows.specs.Laws.{Strict}

-- a remainder a against a remainder b, where the rule for ties says x
larger : (a b : ℕ) (x : Bool) → b < a → (ltb b a || (eqb b a && x)) ≡ true
larger a b x h = grind (arith, nat_tests)

smaller : (a b : ℕ) (x : Bool) → a < b → (ltb b a || (eqb b a && x)) ≡ false
smaller a b x h = grind (arith, nat_tests)

equal : (a b : ℕ) (x : Bool) → a ≡ b → (ltb b a || (eqb b a && x)) ≡ x
equal a b true h = grind (arith, nat_tests)
equal a b false h = grind (arith, nat_tests)

pub comes_equal : (t : TieRule) (n a j b i : ℕ) → a ≡ b → comes t n a j b i ≡ t n j i
comes_equal t n a j b i e = equal a b (t n j i) e

-- where one comes before the other, its remainder is larger, or equal and the rule says so
why : (a b : ℕ) (x : Bool) → (ltb b a || (eqb b a && x)) ≡ true → (b < a) ⊎ ((a ≡ b) × (x ≡ true))
why a b x h =
    ⊎_elim
    (λ (l : b < a). inl l)
    (λ (g : a ≤ b).
    ⊎_elim
    (λ (l : a < b). let z : ◌≡◌ {A = Bool} true false = sym h ∙ smaller a b x l in absurd (grind (arith, nat_tests)))
    (λ (k : b ≤ a). let e : a ≡ b = omega arith in inr (e, sym (equal a b x e) ∙ h))
    (cases_lt a b))
    (cases_lt b a)

module _ (t : TieRule) (n : ℕ) (s : Strict (t n)) (r : ℕ → ℕ) where
  before_transitive : (i j k : ℕ) → before t n r i j ≡ true → before t n r j k ≡ true → before t n r i k ≡ true
  before_transitive i j k p q =
      ⊎_elim
      (λ (a : r j < r i).
      ⊎_elim
      (λ (b : r k < r j). larger (r i) (r k) (t n i k) (omega arith))
      (λ (b : (r j ≡ r k) × (t n j k ≡ true)). larger (r i) (r k) (t n i k) (omega (arith, b.0)))
      (why (r j) (r k) (t n j k) q))
      (λ (a : (r i ≡ r j) × (t n i j ≡ true)).
      ⊎_elim
      (λ (b : r k < r j). larger (r i) (r k) (t n i k) (omega (arith, a.0)))
      (λ (b : (r j ≡ r k) × (t n j k ≡ true)). equal (r i) (r k) (t n i k) (a.0 ∙ b.0) ∙ s.transitive i j k a.1 b.1)
      (why (r j) (r k) (t n j k) q))
      (why (r i) (r j) (t n i j) p)

  before_total : (i j : ℕ) → i ≢ j → before t n r i j ≡ false → before t n r j i ≡ true
  before_total i j ne p =
      ⊎_elim
      (λ (a : r i < r j). larger (r j) (r i) (t n j i) a)
      (λ (a : r j ≤ r i).
      ⊎_elim
      (λ (b : r j < r i). let z : ◌≡◌ {A = Bool} true false = sym (larger (r i) (r j) (t n i j) b) ∙ p in absurd (grind (arith, nat_tests)))
      (λ (b : r i ≤ r j).
      let e : r i ≡ r j = omega arith in
      equal (r j) (r i) (t n j i) (sym e) ∙ s.total i j ne (sym (equal (r i) (r j) (t n i j) e) ∙ p))
      (cases_lt (r j) (r i)))
      (cases_lt (r i) (r j))

  pub before_strict : Strict (before t n r)
  before_strict = record {
    irreflexive = λ i. equal (r i) (r i) (t n i i) (λ _. r i) ∙ s.irreflexive i;
    transitive = before_transitive;
    total = before_total;
  }

pub before_larger : (t : TieRule) (n : ℕ) (r : ℕ → ℕ) (i j : ℕ) → r i < r j → before t n r j i ≡ true
before_larger t n r i j h = larger (r j) (r i) (t n j i) h

-- the rule in force is strict
pub tie_strict : (n : ℕ) → Strict (tie n)
tie_strict n = record {
  irreflexive = λ i. grind (arith, nat_tests);
  transitive = λ i j k a b. grind (arith, nat_tests);
  total = λ i j ne a. grind (arith, nat_tests);
}
