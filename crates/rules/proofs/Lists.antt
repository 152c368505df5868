-- Names in lists, and the last of a list.
use Rattle.std.proofs.Common.{◌≡◌, ℕ, suc, ◌-◌, ◌<◌, Bool, ◌||◌, List, [], ◌∷◌, ◌++◌, map, length, get_or, refl, ap, ◌∙◌, arith}
use Rattle.std.specs.List.{list_any}
use Rattle.std.specs.Str.{bytes_eq}
use Rattle.forms.specs.Told.{Name, bytes_of}
use Rattle.rules.specs.Before.{last_passes}
use Rattle.rules.specs.Verdicts.{among}

pub last_is_lem : {X : Type 0} (p : X → Bool) (xs : List X) (d : X) → 0 < length xs → last_passes p xs ≡ p (get_or xs (length xs - 1) d)
last_is_lem p [] d h = absurd (omega arith)
last_is_lem p (y ∷ []) d h = refl
last_is_lem p (y ∷ z ∷ zs) d h =
    let q : suc (length (z ∷ zs) - 1) ≡ length (y ∷ z ∷ zs) - 1 = omega arith in
    last_is_lem p (z ∷ zs) d (omega arith) ∙ ap (λ i. p (get_or (y ∷ z ∷ zs) i d)) q

pub last_push : {X : Type 0} (p : X → Bool) (xs : List X) (x : X) → last_passes p (xs ++ x ∷ []) ≡ p x
last_push p [] x = refl
last_push p (y ∷ []) x = refl
last_push p (y ∷ z ∷ zs) x = last_push p (z ∷ zs) x

pub last_map : {X Y : Type 0} (f : X → Y) (p : Y → Bool) (xs : List X) → last_passes p (map f xs) ≡ last_passes (λ x. p (f x)) xs
last_map f p [] = refl
last_map f p (x ∷ []) = refl
last_map f p (x ∷ y ∷ ys) = last_map f p (y ∷ ys)

-- a name stands in a list
pub among_any : (w : List ℕ) (ns : List Name) → among w (map bytes_of ns) ≡ list_any (λ p. bytes_eq (bytes_of p) w) ns
among_any w [] = refl
among_any w (n ∷ ns) = ap (λ b. bytes_eq (bytes_of n) w || b) (among_any w ns)
