-- Boxes that share a cube.
use Rattle.std.proofs.Common.{◌≡◌, ℕ, ◌+◌, ◌<◌, ◌≤◌, max, Bool, true, ◌||◌, List, [], ◌∷◌, map, refl, ap, ◌∙◌, arith}
use Rattle.std.specs.List.{list_any}
use Rattle.std.proofs.lemmas.Bool.{and_parts, and_from, ltb-true, lt-ltb}
use Rattle.geometry.specs.declared.cuboid.Cuboid.{Cuboid}
use Rattle.lots.specs.Lists.{Box, box_of, boxed}
use Rattle.lots.specs.declared.list.Lot.{Lot}
use Rattle.lots.specs.Shares.{meets, shares, shares_any, Spans, SharesACube}

-- on one axis
common : (a s b t : ℕ) → 1 ≤ s → 1 ≤ t → meets a s b t ≡ true → Spans a s (max a b) × Spans b t (max a b)
common a s b t h k e =
    let p : a < b + t = ltb-true a (b + t) (and_parts _ _ e).0 in
    let q : b < a + s = ltb-true b (a + s) (and_parts _ _ e).1 in
    ((omega arith, omega arith), (omega arith, omega arith))

both : (a s b t i : ℕ) → Spans a s i → Spans b t i → meets a s b t ≡ true
both a s b t i p q = and_from _ _ (lt-ltb a (b + t) (omega (arith, p.0, q.1))) (lt-ltb b (a + s) (omega (arith, q.0, p.1)))

pub shares_a_cube : SharesACube
shares_a_cube a b hx hy hz kx ky kz = (
  λ e. let p = and_parts _ _ e in
      let q = and_parts _ _ p.1 in
      let x = common a.px a.sx b.px b.sx hx kx p.0 in
      let y = common a.py a.sy b.py b.sy hy ky q.0 in
      let z = common a.pz a.sz b.pz b.sz hz kz q.1 in
      (max a.px b.px, max a.py b.py, max a.pz b.pz, (x.0, y.0, z.0), (x.1, y.1, z.1)),
  λ c. and_from _ _ (both a.px a.sx b.px b.sx c.0 c.3.0 c.4.0)
      (and_from _ _ (both a.py a.sy b.py b.sy c.1 c.3.1 c.4.1) (both a.pz a.sz b.pz b.sz c.2 c.3.2 c.4.2)),
)

-- a box shares a cube with one of a list, as a chain finds it
module _ {X : Type 0} (a : Box) (f : X → Box) where
  any_map : (xs : List X) → list_any (λ x. shares a (f x)) xs ≡ shares_any a (map f xs)
  any_map [] = refl
  any_map (x ∷ xs) = ap (λ t. shares a (f x) || t) (any_map xs)

pub shares_any_box : (a : Box) (cs : List Cuboid) (r : Bool) → r ≡ list_any (λ c. shares a (box_of c)) cs → r ≡ shares_any a (map box_of cs)
shares_any_box a cs r e = e ∙ any_map a box_of cs

pub shares_any_lot : (a : Box) (ls : List Lot) (r : Bool) → r ≡ list_any (λ l. shares a (boxed l)) ls → r ≡ shares_any a (map boxed ls)
shares_any_lot a ls r e = e ∙ any_map a boxed ls
