-- How many entries are held, and a fold over them.
use Rattle.std.proofs.Common.{◌≡◌, ℕ, min, List, [], ◌∷◌, ◌++◌, reverse, length, take, sym, ap, ◌∙◌, subst}
use Rattle.std.proofs.lemmas.List.{length-reverse, length-take, reverse-append}
use Rattle.std.specs.List.{FoldsTo}
use Rattle.stack.specs.Held.{held}

module _ {X : Type 0} where
  pub held_length : (xs : List X) (n : ℕ) → length (held xs n) ≡ min n (length xs)
  held_length xs n = length-reverse (take n xs) ∙ length-take n xs

  -- a fold over the entries takes the last of the slots first
  pub fold_last : {A : Type 0} (R : A → X → A → Type 0) (a c b : A) (xs ys : List X) (x : X) → xs ≡ ys ++ (x ∷ []) → R a x c
      → FoldsTo R c (reverse ys) b → FoldsTo R a (reverse xs) b
  fold_last R a c b xs ys x e r h =
      let q : reverse xs ≡ x ∷ reverse ys = ap reverse e ∙ reverse-append ys (x ∷ []) in
      let f : FoldsTo R a (x ∷ reverse ys) b = (c, r, h) in
      subst (λ (zs : List X). FoldsTo R a zs b) (sym q) f
