-- One pass with a stack finds what the definition says of brackets.
use Rattle.std.proofs.Common.{◌≡◌, ℕ, zero, suc, ◌+◌, ◌-◌, Bool, true, false, cond, eqb, ltb, List, [], ◌∷◌, length, drop, Some, None, Option, sym, refl, ap, ◌∙◌, add-one, arith}
use Rattle.std.proofs.lemmas.Bool.{cond-true, lt-ltb, ne_eqb}
use Rattle.stack.specs.Held.{top_of}
use Rattle.text.specs.Findings.{or_else, stuck, unmatched, unclosed, unbalanced, levels}
use Rattle.text.specs.Scans.{scanned}

or_assoc : {X : Type 0} (a b c : Option X) → or_else (or_else a b) c ≡ or_else a (or_else b c)
or_assoc (Some x) b c = refl
or_assoc None b c = refl

or_none : {X : Type 0} (a : Option X) → or_else a None ≡ a
or_none (Some x) = refl
or_none None = refl

-- the innermost open bracket, once n of those open are closed
open_after : (n k : ℕ) (st : List ℕ) → top_of (drop n (k ∷ st)) ≡ or_else (cond (eqb n 0) (Some k) None) (top_of (drop (n - 1) st))
open_after zero k st = refl
open_after (suc n) k st =
    let q : n ≡ suc n - 1 = omega arith in
    ap (λ m. top_of (drop m st)) q
    ∙ sym (ap (λ t. or_else (cond t (Some k) None) (top_of (drop (suc n - 1) st))) (ne_eqb (suc n) 0 (λ e. omega arith)))

-- what is found where the brackets in st are open
abbrev among : ℕ → List ℕ → List ℕ → Option ℕ
among k st bs = or_else (stuck k (length st) bs) (or_else (unclosed k bs) (top_of (drop (unmatched bs) st)))

-- one byte more, given what the rest finds
module _ (k : ℕ) (st bs : List ℕ) (rest : (st : List ℕ) → scanned (k + 1) st bs ≡ among (k + 1) st bs) where
  opened : (t : Bool)
      → cond t (scanned (k + 1) (k ∷ st) bs) (Some k)
      ≡ or_else (cond t (stuck (k + 1) (length st + 1) bs) (Some k))
      (or_else (or_else (unclosed (k + 1) bs) (cond (eqb (unmatched bs) 0) (Some k) None)) (top_of (drop (unmatched bs - 1) st)))
  opened false = refl
  opened true =
      let n : length (k ∷ st) ≡ length st + 1 = omega arith in
      rest (k ∷ st)
      ∙ (ap (λ d. or_else (stuck (k + 1) d bs) (or_else (unclosed (k + 1) bs) (top_of (drop (unmatched bs) (k ∷ st))))) n
      ∙ ap (or_else (stuck (k + 1) (length st + 1) bs))
      (ap (or_else (unclosed (k + 1) bs)) (open_after (unmatched bs) k st) ∙ sym (or_assoc (unclosed (k + 1) bs) _ _)))

  shut : (ts : List ℕ)
      → cond (ltb 0 (length ts)) (scanned (k + 1) (drop 1 ts) bs) (Some k)
      ≡ or_else (cond (ltb 0 (length ts)) (stuck (k + 1) (length ts - 1) bs) (Some k))
      (or_else (or_else (unclosed (k + 1) bs) None) (top_of (drop (unmatched bs + 1) ts)))
  shut [] = refl
  shut (c ∷ ts) =
      let h = lt-ltb 0 (length (c ∷ ts)) (omega arith) in
      let n : length ts ≡ length (c ∷ ts) - 1 = omega arith in
      let m : suc (unmatched bs) ≡ unmatched bs + 1 = sym (add-one (unmatched bs)) in
      cond-true _ _ _ h
      ∙ (rest ts
      ∙ (ap (λ d. or_else (stuck (k + 1) d bs) (or_else (unclosed (k + 1) bs) (top_of (drop (unmatched bs) ts)))) n
      ∙ (ap (λ d. or_else (stuck (k + 1) (length (c ∷ ts) - 1) bs) (or_else (unclosed (k + 1) bs) (top_of (drop d (c ∷ ts))))) m
      ∙ (ap (λ u. or_else (stuck (k + 1) (length (c ∷ ts) - 1) bs) (or_else u (top_of (drop (unmatched bs + 1) (c ∷ ts))))) (sym (or_none (unclosed (k + 1) bs)))
      ∙ ap (λ o. or_else o (or_else (or_else (unclosed (k + 1) bs) None) (top_of (drop (unmatched bs + 1) (c ∷ ts))))) (sym (cond-true _ _ _ h))))))

  passed : scanned (k + 1) st bs
      ≡ or_else (stuck (k + 1) (length st) bs) (or_else (or_else (unclosed (k + 1) bs) None) (top_of (drop (unmatched bs) st)))
  passed = rest st ∙ ap (λ u. or_else (stuck (k + 1) (length st) bs) (or_else u (top_of (drop (unmatched bs) st)))) (sym (or_none (unclosed (k + 1) bs)))

  one_byte : (b : ℕ) → scanned k st (b ∷ bs) ≡ among k st (b ∷ bs)
  one_byte b =
      elim (eqb b 40) as (λ t.
      cond t (cond (ltb (length st) levels) (scanned (k + 1) (k ∷ st) bs) (Some k))
      (cond (eqb b 41) (cond (ltb 0 (length st)) (scanned (k + 1) (drop 1 st) bs) (Some k)) (scanned (k + 1) st bs))
      ≡ or_else (cond t (cond (ltb (length st) levels) (stuck (k + 1) (length st + 1) bs) (Some k))
      (cond (eqb b 41) (cond (ltb 0 (length st)) (stuck (k + 1) (length st - 1) bs) (Some k)) (stuck (k + 1) (length st) bs)))
      (or_else (or_else (unclosed (k + 1) bs) (cond t (cond (eqb (unmatched bs) 0) (Some k) None) None))
      (top_of (drop (cond t (unmatched bs - 1) (cond (eqb b 41) (unmatched bs + 1) (unmatched bs))) st)))) [
        | true ↦ opened (ltb (length st) levels)
        | false ↦ elim (eqb b 41) as (λ t.
            cond t (cond (ltb 0 (length st)) (scanned (k + 1) (drop 1 st) bs) (Some k)) (scanned (k + 1) st bs)
            ≡ or_else (cond t (cond (ltb 0 (length st)) (stuck (k + 1) (length st - 1) bs) (Some k)) (stuck (k + 1) (length st) bs))
            (or_else (or_else (unclosed (k + 1) bs) None) (top_of (drop (cond t (unmatched bs + 1) (unmatched bs)) st))))
            [ true ↦ shut st | false ↦ passed ]
      ]

scan_finds : (bs : List ℕ) (k : ℕ) (st : List ℕ) → scanned k st bs ≡ among k st bs
scan_finds [] k st = refl
scan_finds (b ∷ bs) k st = one_byte k st bs (λ st. scan_finds bs (k + 1) st) b

nothing_open : (n : ℕ) → top_of {X = ℕ} (drop n []) ≡ None
nothing_open zero = refl
nothing_open (suc n) = refl

pub scan_is : (l : List ℕ) → scanned 1 [] l ≡ unbalanced l
scan_is l =
    scan_finds l 1 []
    ∙ ap (or_else (stuck 1 0 l)) (ap (or_else (unclosed 1 l)) (nothing_open (unmatched l)) ∙ or_none (unclosed 1 l))
