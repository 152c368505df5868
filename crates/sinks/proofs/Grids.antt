-- Cells of a grid add up: to the cell of a coarser grid, and to the volume of a box.
use Rattle.std.proofs.Common.{◌≡◌, ℕ, zero, suc, ◌+◌, ◌-◌, ◌*◌, ◌/◌, ◌^◌, ◌<◌, ◌≤◌, min, max, Bool, true, false, ◌&&◌, eqb, List, [], ◌∷◌, sym, refl, ap, ◌∙◌, ⊎_elim, mul_assoc, add-mul, zero-add, arith}
use Rattle.std.proofs.lemmas.Bool.{cases_Bool, eqb-true}
use Rattle.std.proofs.lemmas.Bool.Decides.{Decides-below_and, Decides-eqb}
use Rattle.geometry.specs.declared.span.Span.{Span}
use Rattle.geometry.specs.declared.cuboid.Cuboid.{Cuboid}
use Rattle.geometry.specs.declared.block.Block.{Block}
use Rattle.geometry.specs.declared.cell.Cell.{Cell}
use Rattle.geometry.specs.Limits.{site}
use Rattle.geometry.specs.Sums.{total, count, sum_of}
use Rattle.geometry.specs.Boxes.{overlap, shared_with, volume_of, extent}
use Rattle.geometry.proofs.Totals.{total_same, total_plus, total_times, times_total, one_false}
use Rattle.sinks.specs.Meaning.{PowerOfTwo, shared_by}
use Rattle.sinks.specs.Laws.{over_cells, inner, GridsAddUp}
use Rattle.sinks.proofs.Shares.{Divides}

-- what a stretch from l to h shares with the stretches from a to b and from b to c, it shares with that from a to c
adds : (l h a b c : ℕ) → l ≤ h → a ≤ b → b ≤ c → (min b h - max a l) + (min c h - max b l) ≡ min c h - max a l
adds l h a b c p q r = omega arith

-- q neighbouring stretches of a grid, from the stretch b on
row : (e b q : ℕ) (s : Span) → total (λ a. overlap e (b + a) s) q ≡ min (b * e + q * e) (s.at.0 + s.size.0) - max (b * e) s.at.0
row e b zero s = omega (arith, zero_mul_e)
  where
    zero_mul_e : 0 * e ≡ 0
    zero_mul_e = omega arith
row e b (suc q) s =
    let m : (b + q) * e ≡ b * e + q * e = add-mul b q e in
    let n : suc q * e ≡ q * e + e = omega (arith, add-mul q 1 e) in
    let here : overlap e (b + q) s ≡ min (b * e + q * e + e) (s.at.0 + s.size.0) - max (b * e + q * e) s.at.0 =
    ap (λ x. min (x + e) (s.at.0 + s.size.0) - max x s.at.0) m in
    ap (λ x. x + overlap e (b + q) s) (row e b q s) ∙ ap (λ x. (min (b * e + q * e) (s.at.0 + s.size.0) - max (b * e) s.at.0) + x) here
    ∙ adds s.at.0 (s.at.0 + s.size.0) (b * e) (b * e + q * e) (b * e + q * e + e) (omega arith) (omega arith) (omega arith)
    ∙ ap (λ x. min x (s.at.0 + s.size.0) - max (b * e) s.at.0) (omega arith)

-- the stretches of a finer grid that lie in one of a coarser grid
finer : (e q i : ℕ) (s : Span) → total (λ a. overlap e (i * q + a) s) q ≡ overlap (q * e) i s
finer e q i s = row e (i * q) q s ∙ ap (λ x. min (x + q * e) (s.at.0 + s.size.0) - max x s.at.0) (mul_assoc i q e)

-- the stretches of a grid, over the whole site
whole : (e q : ℕ) (s : Span) → q * e ≡ site → total (λ a. overlap e a s) q ≡ extent s
whole e q s w =
    total_same (λ a. overlap e a s) (λ a. overlap e (0 + a) s) q (λ a _. ap (λ x. overlap e x s) (sym (zero-add a)))
    ∙ row e 0 q s ∙ omega (arith, s.inside)

-- the sum over cells of a product of a number for each axis
over_product : (n : ℕ) (f g h : ℕ → ℕ) → total (λ i. total (λ j. total (λ k. f i * g j * h k) n) n) n ≡ total f n * total g n * total h n
over_product n f g h =
    let z = total h n in
    let inmost : (i : ℕ) → total (λ j. total (λ k. f i * g j * h k) n) n ≡ f i * total g n * z = λ i.
    total_same (λ j. total (λ k. f i * g j * h k) n) (λ j. f i * g j * z) n (λ j _. total_times (f i * g j) h n)
    ∙ times_total z (λ j. f i * g j) n ∙ ap (λ x. x * z) (total_times (f i) g n) in
    total_same (λ i. total (λ j. total (λ k. f i * g j * h k) n) n) (λ i. f i * total g n * z) n (λ i _. inmost i)
    ∙ times_total z (λ i. f i * total g n) n ∙ ap (λ x. x * z) (times_total (total g n) f n)

product_same : (a b c x y z : ℕ) → a ≡ x → b ≡ y → c ≡ z → a * b * c ≡ x * y * z
product_same a b c x y z p q r = cc

pub shared_finer : (e q : ℕ) (d : Cell) (c : Cuboid) → over_cells q (λ x. shared_with e (inner q d x) c) ≡ shared_with (q * e) d c
shared_finer e q d c =
    over_product q (λ a. overlap e (d.i * q + a) c.x) (λ a. overlap e (d.j * q + a) c.y) (λ a. overlap e (d.k * q + a) c.z)
    ∙ product_same _ _ _ _ _ _ (finer e q d.i c.x) (finer e q d.j c.y) (finer e q d.k c.z)

pub shared_whole : (e q : ℕ) (c : Cuboid) → q * e ≡ site → over_cells q (λ x. shared_with e x c) ≡ volume_of c
shared_whole e q c w =
    over_product q (λ a. overlap e a c.x) (λ a. overlap e a c.y) (λ a. overlap e a c.z)
    ∙ product_same _ _ _ _ _ _ (whole e q c.x w) (whole e q c.y w) (whole e q c.z w)

-- sums over cells of equal numbers, of sums, and of none
pub over_same_cells : (n : ℕ) (f g : Cell → ℕ) → ((d : Cell) → f d ≡ g d) → over_cells n f ≡ over_cells n g
over_same_cells n f g e =
    total_same _ _ n (λ i _. total_same _ _ n (λ j _. total_same _ _ n (λ k _. e (record { i = i; j = j; k = k }))))

over_plus : (n : ℕ) (f g : Cell → ℕ) → over_cells n (λ d. f d + g d) ≡ over_cells n f + over_cells n g
over_plus n f g =
    total_same _ _ n (λ i _.
    total_same _ _ n (λ j _. total_plus (λ k. f (record { i = i; j = j; k = k })) (λ k. g (record { i = i; j = j; k = k })) n)
    ∙ total_plus (λ j. total (λ k. f (record { i = i; j = j; k = k })) n) (λ j. total (λ k. g (record { i = i; j = j; k = k })) n) n)
    ∙ total_plus (λ i. total (λ j. total (λ k. f (record { i = i; j = j; k = k })) n) n) (λ i. total (λ j. total (λ k. g (record { i = i; j = j; k = k })) n) n) n

total_none : (n : ℕ) → total (λ _. 0) n ≡ 0
total_none zero = refl
total_none (suc n) = omega (arith, total_none n)

over_none_cells : (n : ℕ) → over_cells n (λ _. 0) ≡ 0
over_none_cells n =
    total_same _ (λ _. 0) n (λ i _. total_same _ (λ _. 0) n (λ j _. total_none n) ∙ total_none n) ∙ total_none n

-- what holds of every box holds of the sum over blocks
pub over_blocks : (e n : ℕ) (g : Cell → Cell) (v : Cuboid → ℕ) → ((c : Cuboid) → over_cells n (λ x. shared_with e (g x) c) ≡ v c)
    → (bs : List Block) → over_cells n (λ x. shared_by e (g x) bs) ≡ sum_of (λ b. v b.cuboid) bs
over_blocks e n g v one [] = over_none_cells n
over_blocks e n g v one (b ∷ bs) =
    over_plus n (λ x. shared_with e (g x) b.cuboid) (λ x. shared_by e (g x) bs)
    ∙ ap (λ m. m + over_cells n (λ x. shared_by e (g x) bs)) (one b.cuboid) ∙ ap (λ m. v b.cuboid + m) (over_blocks e n g v one bs)

-- the edge of the site is a whole number of edges
some_below : (p : ℕ → Bool) (n : ℕ) → count p n ≡ 1 → (k : ℕ) × (k < n) × (p k ≡ true)
some_below p zero e = absurd (omega arith)
some_below p (suc n) e =
    ⊎_elim (λ (y : p n ≡ true). (n, omega arith, y))
    (λ (z : p n ≡ false).
    let more = some_below p n (omega (arith, one_false (p n) z)) in
    (more.0, omega (arith, more.1), more.2))
    (cases_Bool (p n))

halves : ℕ → Bool
halves zero = true
halves (suc k) = eqb (site / 2 ^ k * 2 ^ k) site && halves k

pub divides : (e : ℕ) → PowerOfTwo e → Divides e
unfolding halves
divides e one =
    let k = some_below (λ k. eqb e (2 ^ k)) 15 one in
    let is : e ≡ 2 ^ k.0 = eqb-true e (2 ^ k.0) k.2 in
    let all = Decides-below_and (λ k. eqb (site / 2 ^ k * 2 ^ k) site) (λ k. site / 2 ^ k * 2 ^ k ≡ site) halves (λ k. Decides-eqb _ _) refl (λ _. refl) 15 in
    ap (λ x. site / x * x) is ∙ all.0 refl k.0 k.1

pub grids_add_up : GridsAddUp
grids_add_up e one bs = over_blocks e (site / e) (λ x. x) volume_of (λ c. shared_whole e (site / e) c (divides e one)) bs
