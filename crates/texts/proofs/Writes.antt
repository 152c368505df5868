-- What a write to a buffer leaves before its end and beyond.
use Rattle.std.proofs.Common.{◌≡◌, ℕ, ◌≤◌, List, ◌++◌, length, take, drop, sym, ap, ◌∙◌, subst, arith}
use Rattle.std.proofs.lemmas.List.{take_at, length-take-le, length-append, drop-drop, drop_at}
use Rattle.texts.specs.Writing.{Wrote}
use Rattle.texts.specs.Laws.{wrote_parts}

pub wrote_is : {xs ys u v : List ℕ} {at to : ℕ} → u ≡ v → Wrote xs at u ys to → Wrote xs at v ys to
wrote_is {xs} {ys} {u} {v} {at} {to} e w = let P : List ℕ → Type 0 = λ t. Wrote xs at t ys to in subst P e w

-- the text up to its end, and the bytes beyond
wrote_length : {xs w ys : List ℕ} {at to : ℕ} → at ≤ length xs → Wrote xs at w ys to → length (take at xs ++ w) ≡ to
wrote_length {xs} {w} {ys} {at} {to} h p = omega (arith, length-append (take at xs) w, length-take-le at xs h, p.value)

pub wrote_text : {xs w ys : List ℕ} {at to : ℕ} → at ≤ length xs → Wrote xs at w ys to → take to ys ≡ take at xs ++ w
wrote_text {xs} {w} {ys} {at} {to} h p = ap (take to) (wrote_parts p) ∙ take_at (take at xs ++ w) (drop (length w) (drop at xs)) to (wrote_length h p)

pub wrote_beyond : {xs w ys : List ℕ} {at to : ℕ} → at ≤ length xs → Wrote xs at w ys to → drop to ys ≡ drop to xs
wrote_beyond {xs} {w} {ys} {at} {to} h p =
    ap (drop to) (wrote_parts p) ∙ drop_at (take at xs ++ w) (drop (length w) (drop at xs)) to (wrote_length h p)
    ∙ drop-drop (length w) at xs ∙ ap (λ n. drop n xs) (sym p.value)
