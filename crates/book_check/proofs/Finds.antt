-- Cutting out the names that a line uses.
use Rattle.std.proofs.Common.{◌≡◌, ℕ, ◌-◌, min, List, length, take, drop, sym, ap, ◌∙◌, ⊎_elim, arith}
use Rattle.std.proofs.lemmas.List.{take_rest, take_all, drop_all}
use Rattle.std.proofs.lemmas.Bool.{cases_lt}

take_min : {X : Type 0} (n : ℕ) (xs : List X) → take (min n (length xs)) xs ≡ take n xs
take_min n xs =
    ⊎_elim (λ h. let e : min n (length xs) ≡ n = omega arith in ap (λ k. take k xs) e)
    (λ h. let e : min n (length xs) ≡ length xs = omega arith in ap (λ k. take k xs) e ∙ take_all (length xs) xs (omega arith) ∙ sym (take_all n xs h))
    (cases_lt n (length xs))

drop_min : {X : Type 0} (n : ℕ) (xs : List X) → drop (min n (length xs)) xs ≡ drop n xs
drop_min n xs =
    ⊎_elim (λ h. let e : min n (length xs) ≡ n = omega arith in ap (λ k. drop k xs) e)
    (λ h. let e : min n (length xs) ≡ length xs = omega arith in ap (λ k. drop k xs) e ∙ drop_all (length xs) xs (omega arith) ∙ sym (drop_all n xs h))
    (cases_lt n (length xs))

-- a cut that stops at the end of the list
pub cut_out : {X : Type 0} (xs : List X) (from n a b : ℕ) → a ≡ min from (length xs) → b ≡ min n (length (take (length xs - a) (drop a xs)))
    → take (b - 0) (take (length xs - a) (drop a xs)) ≡ take n (drop from xs)
cut_out xs from n a b e f =
    let z : b - 0 ≡ b = omega arith in
    ap (λ k. take k (take (length xs - a) (drop a xs))) (z ∙ f)
    ∙ take_min n (take (length xs - a) (drop a xs))
    ∙ ap (take n) (take_rest xs a ∙ ap (λ k. drop k xs) e ∙ drop_min from xs)
