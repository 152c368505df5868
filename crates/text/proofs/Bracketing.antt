-- What the definition finds among brackets, in plain words.
use Rattle.std.proofs.Common.{◌≡◌, ℕ, zero, suc, ◌+◌, ◌-◌, ◌<◌, ◌≤◌, true, false, cond, eqb, ltb, ◌⊎◌, List, [], ◌∷◌, length, get_or, take, drop, Some, None, Option, sym, refl, ◌∙◌, subst, inl, inr, ⊎_elim, add-one, arith}
use Rattle.std.proofs.lemmas.Bool.{eqb-true, eqb-false, ltb-true, ltb-false, cond-true, cond-false, eq-eqb, ne_eqb, cases_eq}
use Rattle.text.specs.Findings.{levels, or_else, stuck, unmatched, unclosed, unbalanced, count, Cannot, StaysOpen, NoneBelow, Bracketed}

-- how a byte counts

is_one : (b x : ℕ) → x ≡ b → ◌≡◌ {A = ℕ} (cond (eqb x b) 1 0) 1
is_one b x e = cond-true _ _ _ (eq-eqb x b e)

not_one : (b x : ℕ) → (x ≡ b → ⊥) → ◌≡◌ {A = ℕ} (cond (eqb x b) 1 0) 0
not_one b x e = cond-false _ _ _ (ne_eqb x b e)

-- the same as `Cannot` where o brackets were opened before the bytes and c closed
abbrev CannotAt : ℕ → ℕ → List ℕ → ℕ → Type 0
CannotAt o c bs i =
    ((get_or bs i 0 ≡ 41) × (o + count 40 (take i bs) ≡ c + count 41 (take i bs)))
    ⊎ ((get_or bs i 0 ≡ 40) × (o + count 40 (take i bs) ≡ c + count 41 (take i bs) + levels))

-- the first such, where the bytes begin at column k
abbrev StuckFrom : ℕ → ℕ → ℕ → List ℕ → Option ℕ → Type 0
StuckFrom k o c bs (Some x) = (k ≤ x) × (x < k + length bs) × CannotAt o c bs (x - k) × NoneBelow (CannotAt o c bs) (x - k)
StuckFrom k o c bs None = NoneBelow (CannotAt o c bs) (length bs)

-- one byte moves from the bytes to those before
shift_in : (o c b : ℕ) (bs : List ℕ) (i : ℕ) → CannotAt (o + cond (eqb b 40) 1 0) (c + cond (eqb b 41) 1 0) bs i → CannotAt o c (b ∷ bs) (suc i)
shift_in o c b bs i h = ⊎_elim (λ p. inl (p.0, omega (arith, p.1))) (λ p. inr (p.0, omega (arith, p.1))) h

shift_out : (o c b : ℕ) (bs : List ℕ) (i : ℕ) → CannotAt o c (b ∷ bs) (suc i) → CannotAt (o + cond (eqb b 40) 1 0) (c + cond (eqb b 41) 1 0) bs i
shift_out o c b bs i h = ⊎_elim (λ p. inl (p.0, omega (arith, p.1))) (λ p. inr (p.0, omega (arith, p.1))) h

none_more : (o c b : ℕ) (bs : List ℕ) (n : ℕ) → (CannotAt o c (b ∷ bs) 0 → ⊥)
    → NoneBelow (CannotAt (o + cond (eqb b 40) 1 0) (c + cond (eqb b 41) 1 0) bs) n → NoneBelow (CannotAt o c (b ∷ bs)) (n + 1)
none_more o c b bs n z f zero h p = z p
none_more o c b bs n z f (suc i) h p = f i (omega arith) (shift_out o c b bs i p)

grow : (k o c b : ℕ) (bs : List ℕ) (r : Option ℕ) → (CannotAt o c (b ∷ bs) 0 → ⊥)
    → StuckFrom (k + 1) (o + cond (eqb b 40) 1 0) (c + cond (eqb b 41) 1 0) bs r → StuckFrom k o c (b ∷ bs) r
grow k o c b bs (Some x) z f =
    let q : suc (x - (k + 1)) ≡ x - k = omega (arith, f.0) in
    let m : x - (k + 1) + 1 ≡ x - k = omega (arith, f.0) in (
      omega (arith, f.0),
      omega (arith, f.1),
      subst (CannotAt o c (b ∷ bs)) q (shift_in o c b bs (x - (k + 1)) f.2),
      subst (NoneBelow (CannotAt o c (b ∷ bs))) m (none_more o c b bs (x - (k + 1)) z f.3),
    )
grow k o c b bs None z f = λ i h. none_more o c b bs (length bs) z f i (omega arith)

here : (k o c b : ℕ) (bs : List ℕ) → CannotAt o c (b ∷ bs) 0 → StuckFrom k o c (b ∷ bs) (Some k)
here k o c b bs h =
    let q : 0 ≡ k - k = omega arith in
    (omega arith, omega arith, subst (CannotAt o c (b ∷ bs)) q h, λ i l p. absurd (omega arith))

stuck_finds : (bs : List ℕ) (k d o c : ℕ) → o ≡ c + d → d ≤ levels → StuckFrom k o c bs (stuck k d bs)
stuck_finds [] k d o c e h = λ i l p. absurd (omega arith)
stuck_finds (b ∷ bs) k d o c e h =
    (elim (eqb b 40) as (λ t. eqb b 40 ≡ t → StuckFrom k o c (b ∷ bs)
    (cond t (cond (ltb d levels) (stuck (k + 1) (d + 1) bs) (Some k))
    (cond (eqb b 41) (cond (ltb 0 d) (stuck (k + 1) (d - 1) bs) (Some k)) (stuck (k + 1) d bs)))) [
      | true ↦ λ q.
          let is : b ≡ 40 = eqb-true b 40 q in
          let x = is_one 40 b is in
          let y = not_one 41 b (λ z. omega arith) in
          (elim (ltb d levels) as (λ t. ltb d levels ≡ t → StuckFrom k o c (b ∷ bs) (cond t (stuck (k + 1) (d + 1) bs) (Some k))) [
            | true ↦ λ u. let m = ltb-true d levels u in
                grow k o c b bs (stuck (k + 1) (d + 1) bs) (⊎_elim (λ p. omega (arith, p.0)) (λ p. omega (arith, p.1)))
                (stuck_finds bs (k + 1) (d + 1) _ _ (omega arith) (omega arith))
            | false ↦ λ u. let m = ltb-false d levels u in here k o c b bs (inr (is, omega arith))
          ]) refl
      | false ↦ λ q.
          let ne : b ≡ 40 → ⊥ = eqb-false b 40 q in
          let x = not_one 40 b ne in
          (elim (eqb b 41) as (λ t. eqb b 41 ≡ t → StuckFrom k o c (b ∷ bs) (cond t (cond (ltb 0 d) (stuck (k + 1) (d - 1) bs) (Some k)) (stuck (k + 1) d bs))) [
            | true ↦ λ q.
                let is : b ≡ 41 = eqb-true b 41 q in
                let y = is_one 41 b is in
                (elim (ltb 0 d) as (λ t. ltb 0 d ≡ t → StuckFrom k o c (b ∷ bs) (cond t (stuck (k + 1) (d - 1) bs) (Some k))) [
                  | true ↦ λ u. let m = ltb-true 0 d u in
                      grow k o c b bs (stuck (k + 1) (d - 1) bs) (⊎_elim (λ p. omega (arith, p.1)) (λ p. ne p.0))
                      (stuck_finds bs (k + 1) (d - 1) _ _ (omega arith) (omega arith))
                  | false ↦ λ u. let m = ltb-false 0 d u in here k o c b bs (inl (is, omega arith))
                ]) refl
            | false ↦ λ q.
                let y = not_one 41 b (eqb-false b 41 q) in
                grow k o c b bs (stuck (k + 1) d bs) (⊎_elim (λ p. eqb-false b 41 q p.0) (λ p. ne p.0))
                (stuck_finds bs (k + 1) d _ _ (omega arith) h)
          ]) refl
    ]) refl

-- the last opening bracket that no later one closes

abbrev Unclosed : List ℕ → ℕ → Type 0
Unclosed bs i = (get_or bs i 0 ≡ 40) × (unmatched (drop (suc i) bs) ≡ 0)

abbrev UnclosedFrom : ℕ → List ℕ → Option ℕ → Type 0
UnclosedFrom k bs (Some x) =
    (k ≤ x) × (x < k + length bs) × Unclosed bs (x - k) × ((i : ℕ) → x - k < i → i < length bs → Unclosed bs i → ⊥)
UnclosedFrom k bs None = NoneBelow (Unclosed bs) (length bs)

none_later : (b : ℕ) (bs : List ℕ) (m : ℕ) → ((i : ℕ) → m < i → i < length bs → Unclosed bs i → ⊥)
    → (i : ℕ) → m + 1 < i → i < length (b ∷ bs) → Unclosed (b ∷ bs) i → ⊥
none_later b bs m f zero h l p = omega arith
none_later b bs m f (suc i) h l p = f i (omega arith) (omega arith) p

none_rest : (b : ℕ) (bs : List ℕ) → NoneBelow (Unclosed bs) (length bs) → (i : ℕ) → 0 < i → i < length (b ∷ bs) → Unclosed (b ∷ bs) i → ⊥
none_rest b bs f zero h l p = omega arith
none_rest b bs f (suc i) h l p = f i (omega arith) p

none_all : (b : ℕ) (bs : List ℕ) → (Unclosed (b ∷ bs) 0 → ⊥) → NoneBelow (Unclosed bs) (length bs) → NoneBelow (Unclosed (b ∷ bs)) (length (b ∷ bs))
none_all b bs z f zero h p = z p
none_all b bs z f (suc i) h p = f i (omega arith) p

unclosed_more : (k b : ℕ) (bs : List ℕ) (r : Option ℕ) → UnclosedFrom (k + 1) bs r
    → UnclosedFrom k (b ∷ bs) (or_else r (cond (eqb b 40) (cond (eqb (unmatched bs) 0) (Some k) None) None))
unclosed_more k b bs (Some x) f =
    let q : suc (x - (k + 1)) ≡ x - k = omega (arith, f.0) in (
      omega (arith, f.0),
      omega (arith, f.1),
      subst (Unclosed (b ∷ bs)) q f.2,
      λ i h l p. none_later b bs (x - (k + 1)) f.3 i (omega (arith, f.0)) l p,
    )
unclosed_more k b bs None f =
    (elim (eqb b 40) as (λ t. eqb b 40 ≡ t → UnclosedFrom k (b ∷ bs) (cond t (cond (eqb (unmatched bs) 0) (Some k) None) None)) [
      | true ↦ λ e. (elim (eqb (unmatched bs) 0) as (λ t. eqb (unmatched bs) 0 ≡ t → UnclosedFrom k (b ∷ bs) (cond t (Some k) None)) [
        | true ↦ λ u.
            let q : 0 ≡ k - k = omega arith in (
              omega arith,
              omega arith,
              subst (Unclosed (b ∷ bs)) q (eqb-true b 40 e, eqb-true (unmatched bs) 0 u),
              λ i h l p. none_rest b bs f i (omega arith) l p,
            )
        | false ↦ λ u. none_all b bs (λ p. eqb-false (unmatched bs) 0 u p.1) f
      ]) refl
      | false ↦ λ e. none_all b bs (λ p. eqb-false b 40 e p.0) f
    ]) refl

unclosed_finds : (bs : List ℕ) (k : ℕ) → UnclosedFrom k bs (unclosed k bs)
unclosed_finds [] k = λ i l p. absurd (omega arith)
unclosed_finds (b ∷ bs) k = unclosed_more k b bs (unclosed (k + 1) bs) (unclosed_finds bs (k + 1))

-- closing brackets without an opening one, by counts

unmatched_open : (b : ℕ) (bs : List ℕ) → b ≡ 40 → unmatched (b ∷ bs) ≡ unmatched bs - 1
unmatched_open b bs e = cond-true _ _ _ (eq-eqb b 40 e)

unmatched_close : (b : ℕ) (bs : List ℕ) → b ≡ 41 → unmatched (b ∷ bs) ≡ unmatched bs + 1
unmatched_close b bs e = cond-false _ _ _ (ne_eqb b 40 (λ q. omega arith)) ∙ cond-true _ _ _ (eq-eqb b 41 e)

unmatched_other : (b : ℕ) (bs : List ℕ) → (b ≡ 40 → ⊥) → (b ≡ 41 → ⊥) → unmatched (b ∷ bs) ≡ unmatched bs
unmatched_other b bs e f = cond-false _ _ _ (ne_eqb b 40 e) ∙ cond-false _ _ _ (ne_eqb b 41 f)

to_counts : (bs : List ℕ) (d : ℕ) → unmatched bs ≤ d → (n : ℕ) → count 41 (take n bs) ≤ count 40 (take n bs) + d
to_counts bs d h zero = omega arith
to_counts [] d h (suc n) = omega arith
to_counts (b ∷ bs) d h (suc n) =
    ⊎_elim
    (λ e. let r = to_counts bs (d + 1) (omega (arith, unmatched_open b bs e)) n in
    omega (arith, r, is_one 40 b e, not_one 41 b (λ q. omega arith)))
    (λ ne. ⊎_elim
    (λ e. let r = to_counts bs (d - 1) (omega (arith, unmatched_close b bs e)) n in
    omega (arith, r, is_one 41 b e, not_one 40 b ne, unmatched_close b bs e))
    (λ nf. let r = to_counts bs d (omega (arith, unmatched_other b bs ne nf)) n in
    omega (arith, r, not_one 40 b ne, not_one 41 b nf))
    (cases_eq b 41))
    (cases_eq b 40)

from_counts : (bs : List ℕ) (d : ℕ) → ((n : ℕ) → count 41 (take n bs) ≤ count 40 (take n bs) + d) → unmatched bs ≤ d
from_counts [] d f = omega arith
from_counts (b ∷ bs) d f =
    ⊎_elim
    (λ e. let x = is_one 40 b e in
    let y = not_one 41 b (λ q. omega arith) in
    let r = from_counts bs (d + 1) (λ n. omega (arith, f (suc n))) in
    omega (arith, r, unmatched_open b bs e))
    (λ ne. let x = not_one 40 b ne in
    ⊎_elim
    (λ e. let y = is_one 41 b e in
    let z = f (suc zero) in
    let r = from_counts bs (d - 1) (λ n. omega (arith, f (suc n))) in
    omega (arith, r, unmatched_close b bs e))
    (λ nf. let y = not_one 41 b nf in
    let r = from_counts bs d (λ n. omega (arith, f (suc n))) in
    omega (arith, r, unmatched_other b bs ne nf))
    (cases_eq b 41))
    (cases_eq b 40)

-- the parts of the plain words

cannot_in : (l : List ℕ) (i : ℕ) → CannotAt 0 0 l i → Cannot l i
cannot_in l i h = ⊎_elim (λ p. inl (p.0, omega (arith, p.1))) (λ p. inr (p.0, omega (arith, p.1))) h

cannot_out : (l : List ℕ) (i : ℕ) → Cannot l i → CannotAt 0 0 l i
cannot_out l i h = ⊎_elim (λ p. inl (p.0, omega (arith, p.1))) (λ p. inr (p.0, omega (arith, p.1))) h

open_in : (l : List ℕ) (i : ℕ) → Unclosed l i → StaysOpen l i
open_in l i h =
    let q : suc i ≡ i + 1 = sym (add-one i) in (
      h.0,
      subst (λ (m : ℕ). (n : ℕ) → count 41 (take n (drop m l)) ≤ count 40 (take n (drop m l))) q
          (λ n. omega (arith, to_counts (drop (suc i) l) 0 (omega (arith, h.1)) n)),
    )

open_out : (l : List ℕ) (i : ℕ) → StaysOpen l i → Unclosed l i
open_out l i h =
    let q : i + 1 ≡ suc i = add-one i in
    let f : (n : ℕ) → count 41 (take n (drop (suc i) l)) ≤ count 40 (take n (drop (suc i) l)) =
    subst (λ (m : ℕ). (n : ℕ) → count 41 (take n (drop m l)) ≤ count 40 (take n (drop m l))) q h.1 in
    let r = from_counts (drop (suc i) l) 0 (λ n. omega (arith, f n)) in
    (h.0, omega arith)

joined : (l : List ℕ) (r s : Option ℕ) → StuckFrom 1 0 0 l r → UnclosedFrom 1 l s → Bracketed l (or_else r s)
joined l (Some x) s f g =
    (f.0, omega (arith, f.1), inl (cannot_in l (x - 1) f.2, λ i h p. f.3 i h (cannot_out l i p)))
joined l None (Some x) f g = (
  g.0,
  omega (arith, g.1),
  inr (λ i h p. f i h (cannot_out l i p), open_in l (x - 1) g.2, λ i h m p. g.3 i (omega (arith, g.0)) m (open_out l i p)),
)
joined l None None f g = (λ i h p. f i h (cannot_out l i p), λ i h p. g i h (open_out l i p))

pub bracketed : (l : List ℕ) (r : Option ℕ) → r ≡ unbalanced l → Bracketed l r
bracketed l r e =
    subst (Bracketed l) (sym e)
    (joined l (stuck 1 0 l) (unclosed 1 l) (stuck_finds l 1 0 0 0 refl (omega arith)) (unclosed_finds l 1))
