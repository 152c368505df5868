-- The first byte that passes a test, in plain words.
use Rattle.std.proofs.Common.{◌≡◌, ℕ, zero, suc, ◌+◌, ◌-◌, ◌<◌, ◌≤◌, Bool, true, false, cond, List, [], ◌∷◌, length, get_or, drop, Some, None, Option, sym, refl, ap, ◌∙◌, subst, arith}
use Rattle.std.proofs.lemmas.List.{at_drop_more, at_drop_all}
use Rattle.std.proofs.lemmas.Bool.{cond-true, cond-false}
use Rattle.std.specs.Option.{option_map}
use Rattle.text.proofs.Along.{along}
use Rattle.text.specs.Bytes.{FirstFrom}
use Rattle.text.specs.Findings.{first_byte, First}

module _ (p : ℕ → Bool) where
  -- the same where the bytes begin at column k
  abbrev FoundFrom : ℕ → List ℕ → Option ℕ → Type 0
  FoundFrom k bs (Some c) =
      (k ≤ c) × (c < k + length bs) × (p (get_or bs (c - k) 0) ≡ true) × ((i : ℕ) → i + k < c → p (get_or bs i 0) ≡ false)
  FoundFrom k bs None = (i : ℕ) → i < length bs → p (get_or bs i 0) ≡ false

  none_before : (b : ℕ) (bs : List ℕ) (n : ℕ) → p b ≡ false → ((i : ℕ) → i < n → p (get_or bs i 0) ≡ false)
      → (i : ℕ) → i < n + 1 → p (get_or (b ∷ bs) i 0) ≡ false
  none_before b bs n e f zero h = e
  none_before b bs n e f (suc i) h = f i (omega arith)

  grow : (k b : ℕ) (bs : List ℕ) (r : Option ℕ) → p b ≡ false → FoundFrom (k + 1) bs r → FoundFrom k (b ∷ bs) r
  grow k b bs (Some c) e f =
      let q : c - k ≡ suc (c - (k + 1)) = omega (arith, f.0) in (
        omega (arith, f.0),
        omega (arith, f.1),
        ap (λ n. p (get_or (b ∷ bs) n 0)) q ∙ f.2,
        λ i h. none_before b bs (c - (k + 1)) e (λ j g. f.3 j (omega arith)) i (omega (arith, f.0)),
      )
  grow k b bs None e f = λ i h. none_before b bs (length bs) e f i (omega arith)

  found : (k : ℕ) (bs : List ℕ) → FoundFrom k bs (first_byte p k bs)
  found k [] = λ i h. absurd (omega arith)
  found k (b ∷ bs) =
      (elim (p b) as (λ t. p b ≡ t → FoundFrom k (b ∷ bs) (cond t (Some k) (first_byte p (k + 1) bs))) [
        | true ↦ λ e. let q : k - k ≡ 0 = omega arith in
            (omega arith, omega arith, ap (λ n. p (get_or (b ∷ bs) n 0)) q ∙ e, λ i h. absurd (omega arith))
        | false ↦ λ e. grow k b bs (first_byte p (k + 1) bs) e (found (k + 1) bs)
      ]) refl

  from_one : (bs : List ℕ) (r : Option ℕ) → FoundFrom 1 bs r → First p bs r
  from_one bs (Some c) f = (f.0, omega (arith, f.1), f.2, f.3)
  from_one bs None f = f

  pub first_found : (bs : List ℕ) (r : Option ℕ) → r ≡ first_byte p 1 bs → First p bs r
  first_found bs r e = subst (First p bs) (sym e) (from_one bs (first_byte p 1 bs) (found 1 bs))

  -- one byte more of the pass

  byte_fails : (xs : List ℕ) (i : ℕ) → i < length xs → p (get_or xs i 0) ≡ false
      → first_byte p (i + 1) (drop i xs) ≡ first_byte p (i + 1 + 1) (drop (i + 1) xs)
  byte_fails xs i h e = at_drop_more (first_byte p (i + 1)) xs i 0 h ∙ cond-false _ _ _ e

  up_to : (xs : List ℕ) (n : ℕ) → n ≤ length xs → ((k : ℕ) → k < n → p (get_or xs k 0) ≡ false) → first_byte p 1 xs ≡ first_byte p (n + 1) (drop n xs)
  up_to xs n h f = along (λ i. first_byte p (i + 1) (drop i xs)) 0 n (omega arith) (λ i a b. byte_fails xs i (omega arith) (f i b))

  -- the column of the byte at the first index that passes
  pub column_is : (xs : List ℕ) (r : Option ℕ) → FirstFrom p xs 0 r → option_map (λ i. i + 1) r ≡ first_byte p 1 xs
  column_is xs (Some i) h =
      sym (up_to xs i (omega (arith, h.1)) (λ k b. h.3 k (omega arith) b)
      ∙ (at_drop_more (first_byte p (i + 1)) xs i 0 h.1 ∙ cond-true _ _ _ h.2))
  column_is xs None h =
      sym (up_to xs (length xs) (omega arith) (λ k b. h k (omega arith) b) ∙ at_drop_all (first_byte p (length xs + 1)) xs (length xs) (omega arith))
