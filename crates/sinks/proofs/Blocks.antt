-- Sums over lists of blocks.
use Rattle.std.proofs.Common.{◌≡◌, ℕ, ◌+◌, ◌<◌, ◌≤◌, min, List, [], ◌∷◌, ◌++◌, length, take, set, refl, sym, ap, ◌∙◌, ⊎_elim, mul-le-mul, arith}
use native.Mathlib.Nat.{min-eq_left, min-eq_right}
use Rattle.std.proofs.lemmas.List.{take_more_set, take_all}
use Rattle.std.specs.List.{sum_by}
use Rattle.std.proofs.lemmas.List.Sums.{sum_by-cons}
use Rattle.std.proofs.lemmas.Bool.{cases_lt}
use Rattle.geometry.specs.declared.span.Span.{Span}
use Rattle.geometry.specs.declared.cuboid.Cuboid.{Cuboid}
use Rattle.geometry.specs.declared.block.Block.{Block}
use Rattle.geometry.specs.declared.cell.Cell.{Cell}
use Rattle.geometry.specs.Sums.{sum_of}
use Rattle.geometry.specs.Boxes.{overlap, shared_with}

pub sum_of_push : {X : Type 0} (f : X → ℕ) (xs : List X) (x : X) → sum_of f (xs ++ x ∷ []) ≡ sum_of f xs + f x
sum_of_push f [] x = omega arith
sum_of_push f (y ∷ xs) x = omega (arith, sum_of_push f xs x)

-- one entry more of a list after a write
pub sum_of_set : {X : Type 0} (f : X → ℕ) (xs : List X) (n : ℕ) (x : X) → n < length xs → sum_of f (take (n + 1) (set xs n x)) ≡ sum_of f (take n xs) + f x
sum_of_set f xs n x h = ap (sum_of f) (take_more_set xs n x h) ∙ sum_of_push f (take n xs) x

-- the front of n, or all there is
pub front_min : {X : Type 0} (n : ℕ) (xs : List X) → take (min n (length xs)) xs ≡ take n xs
front_min n xs =
    ⊎_elim (λ h. let l : n ≤ length xs = omega arith in rw (min-eq_left {n = n} {m = length xs} l))
    (λ h. rw (min-eq_right {n = length xs} {m = n} h) (take_all (length xs) xs (omega arith) ∙ sym (take_all n xs h))) (cases_lt n (length xs))

overlap_one : (i : ℕ) (s : Span) → overlap 1 i s ≤ 1
overlap_one i s = omega arith

-- a cell of edge 1 is one cube
pub shared_one : (d : Cell) (c : Cuboid) → shared_with 1 d c ≤ 1
shared_one d c = mul-le-mul (mul-le-mul (overlap_one d.i c.x) (overlap_one d.j c.y)) (overlap_one d.k c.z)

-- the sum as the library says it
pub sum_of_by : {X : Type 0} (f : X → ℕ) (xs : List X) → sum_of f xs ≡ sum_by f xs
sum_of_by f [] = refl
sum_of_by f (x ∷ xs) = ap (λ n. f x + n) (sum_of_by f xs) ∙ sym (sum_by-cons f x xs)

pub shared_few : (d : Cell) (bs : List Block) → sum_of (λ b. shared_with 1 d b.cuboid) bs ≤ length bs
shared_few d [] = omega arith
shared_few d (b ∷ bs) = omega (arith, shared_few d bs, shared_one d b.cuboid)
