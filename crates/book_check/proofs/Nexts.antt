-- The next element of a list whose first i were gone over.
use Rattle.std.proofs.Common.{◌≡◌, ℕ, zero, suc, ◌+◌, ◌<◌, List, [], ◌∷◌, length, get_or, drop, sym, ap, ◌∙◌, arith}

pub record Next {X : Type 0} (xs : List X) (i : ℕ) (x : X) (rest : List X) : Type 0 where
  pub there : i < length xs
  pub is : (d : X) → get_or xs i d ≡ x
  pub left : rest ≡ drop (i + 1) xs

pub next_of : {X : Type 0} (xs : List X) (i : ℕ) (x : X) (rest : List X) → drop i xs ≡ x ∷ rest → Next xs i x rest
next_of [] zero x rest e = absurd (omega (arith, ap length e))
next_of [] (suc i) x rest e = absurd (omega (arith, ap length e))
next_of (y ∷ ys) zero x rest e =
    let p : y ≡ x = cc in
    let q : ys ≡ rest = cc in
    record { there = omega arith; is = λ d. p; left = sym q }
next_of (y ∷ ys) (suc i) x rest e =
    let h = next_of ys i x rest e in
    let z : suc (i + 1) ≡ suc i + 1 = omega arith in
    record { there = omega (arith, h.there); is = h.is; left = h.left ∙ ap (λ n. drop n (y ∷ ys)) z }
