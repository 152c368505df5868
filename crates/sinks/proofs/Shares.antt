-- What a box shares with the cells of a grid: at most its volume, nothing beyond the site.
use Rattle.std.proofs.Common.{◌≡◌, ℕ, ◌*◌, ◌/◌, ◌<◌, ◌≤◌, true, false, cond, ltb, sym, refl, ap, ◌∙◌, ⊎_elim, mul-le-mul_right, mul-le-mul, mul-zero, zero-mul, arith}
use Rattle.std.proofs.lemmas.Bool.{and_cases, and_parts, ltb-false, ltb-true, cases_Bool}
use Rattle.geometry.specs.declared.span.Span.{Span}
use Rattle.geometry.specs.declared.cuboid.Cuboid.{Cuboid}
use Rattle.geometry.specs.declared.cell.Cell.{Cell}
use Rattle.geometry.specs.Limits.{site}
use Rattle.geometry.specs.Boxes.{overlap, shared_with, volume_of, extent}
use Rattle.sinks.specs.Meaning.{in_grid, limit}

overlap_le : (e i : ℕ) (s : Span) → overlap e i s ≤ extent s
overlap_le e i s = omega arith

pub shared_le : (e : ℕ) (d : Cell) (c : Cuboid) → shared_with e d c ≤ volume_of c
shared_le e d c = mul-le-mul (mul-le-mul (overlap_le e d.i c.x) (overlap_le e d.j c.y)) (overlap_le e d.k c.z)

extent_le : (s : Span) → extent s ≤ site
extent_le s = omega (arith, s.inside)

pub volume_le : (c : Cuboid) → volume_of c ≤ limit
volume_le c = mul-le-mul (mul-le-mul (extent_le c.x) (extent_le c.y)) (extent_le c.z)

pub shared_small : (e : ℕ) (d : Cell) (c : Cuboid) → shared_with e d c ≤ limit
shared_small e d c = omega (arith, shared_le e d c, volume_le c)

-- no overlap on one axis
pub none_x : (e : ℕ) (d : Cell) (c : Cuboid) → overlap e d.i c.x ≡ 0 → shared_with e d c ≡ 0
none_x e d c z = ap (λ n. n * overlap e d.j c.y * overlap e d.k c.z) z ∙ ap (λ n. n * overlap e d.k c.z) (zero-mul _) ∙ zero-mul _

pub none_y : (e : ℕ) (d : Cell) (c : Cuboid) → overlap e d.j c.y ≡ 0 → shared_with e d c ≡ 0
none_y e d c z = ap (λ n. overlap e d.i c.x * n * overlap e d.k c.z) z ∙ ap (λ n. n * overlap e d.k c.z) (mul-zero _) ∙ zero-mul _

pub none_z : (e : ℕ) (d : Cell) (c : Cuboid) → overlap e d.k c.z ≡ 0 → shared_with e d c ≡ 0
none_z e d c z = ap (λ n. overlap e d.i c.x * overlap e d.j c.y * n) z ∙ mul-zero _

-- the site is a whole number of cells
abbrev pub Divides : ℕ → Type 0
Divides e = site / e * e ≡ site

outside : (e i : ℕ) (s : Span) → Divides e → ltb i (site / e) ≡ false → overlap e i s ≡ 0
outside e i s whole out =
    let h : site / e ≤ i = ltb-false i (site / e) out in
    let far : site / e * e ≤ i * e = mul-le-mul_right e h in
    omega (arith, s.inside)

pub shared_outside : (e : ℕ) (d : Cell) (c : Cuboid) → Divides e → in_grid e d ≡ false → shared_with e d c ≡ 0
shared_outside e d c whole out =
    ⊎_elim (λ p. none_x e d c (outside e d.i c.x whole p))
    (λ rest. ⊎_elim (λ p. none_y e d c (outside e d.j c.y whole p)) (λ p. none_z e d c (outside e d.k c.z whole p)) (and_cases _ _ rest))
    (and_cases _ _ out)

pub grid_parts : (e : ℕ) (d : Cell) → in_grid e d ≡ true → (d.i < site / e) × (d.j < site / e) × (d.k < site / e)
grid_parts e d within =
    let p = and_parts _ _ within in
    let q = and_parts _ _ p.1 in (ltb-true _ _ p.0, ltb-true _ _ q.0, ltb-true _ _ q.1)

-- the one cell of a grid whose edge is the site's
product_same : (a b c x y z : ℕ) → a ≡ x → b ≡ y → c ≡ z → a * b * c ≡ x * y * z
product_same a b c x y z p q r = cc

all_of : (i : ℕ) (s : Span) → i < 1 → overlap site i s ≡ extent s
all_of i s h = omega (arith, s.inside)

pub shared_site : (d : Cell) (c : Cuboid) → shared_with site d c ≡ cond (in_grid site d) (volume_of c) 0
shared_site d c =
    ⊎_elim
    (λ within.
    let g = grid_parts site d within in
    product_same _ _ _ _ _ _ (all_of d.i c.x g.0) (all_of d.j c.y g.1) (all_of d.k c.z g.2)
    ∙ sym (ap (λ b. cond b (volume_of c) 0) within))
    (λ out. shared_outside site d c refl out ∙ sym (ap (λ b. cond b (volume_of c) 0) out))
    (cases_Bool (in_grid site d))
