-- Sums over the materials, and numbers for a block's own material.
use Rattle.std.proofs.Common.{◌≡◌, ℕ, zero, suc, ◌+◌, ◌<◌, ◌≤◌, cond, eqb, ◌≢◌, List, length, get_or, set, sym, ap, ◌∙◌, ⊎_elim, mul-le-mul, arith}
use Rattle.std.proofs.lemmas.List.{get_or-set_same, get_or-set_other}
use Rattle.std.proofs.lemmas.Bool.{cases_lt, cases_eq, eq-eqb, ne_eqb}
use Rattle.geometry.specs.Sums.{total}
use Rattle.geometry.specs.Boxes.{volume_of}
use Rattle.geometry.specs.declared.cuboid.Cuboid.{Cuboid}
use Rattle.geometry.proofs.Totals.{total_same, total_part}
use Rattle.geometry.specs.declared.block.Block.{Block}
use Rattle.sinks.specs.declared.tally.MaterialSums.{MaterialSums}
use Rattle.sinks.specs.declared.tally.Tallies.{Tallies}
use Rattle.sinks.specs.Meaning.{over_materials, materials}
use Rattle.sinks.specs.Tallied.{count_of, volume_held, drawn_of, Noted}

-- the volume of a box is no less than one cube
pub volume_some : (c : Cuboid) → 1 ≤ volume_of c
volume_some c = mul-le-mul (mul-le-mul c.x.some c.y.some) c.z.some

pub same_yes : (k m v : ℕ) → k ≡ m → cond (eqb k m) v 0 ≡ v
same_yes k m v e = ap (λ b. cond b v 0) (eq-eqb k m e)

pub same_not : (k m v : ℕ) → (k ≡ m → ⊥) → cond (eqb k m) v 0 ≡ 0
same_not k m v e = ap (λ b. cond b v 0) (ne_eqb k m e)

pub part_le : (f : ℕ → ℕ) (m : ℕ) → m < materials → f m ≤ over_materials f
unfolding over_materials
part_le f m h = total_part f materials m h

-- the number of a material is no more than all
pub number_le : (s : MaterialSums) (m : ℕ) → m < materials → get_or s.each m 0 ≤ s.all
number_le s m h = omega (arith, part_le (λ k. get_or s.each k 0) m h, s.summed)

-- v more at one place is v more in the sum
total_at : (f g : ℕ → ℕ) (m v n : ℕ) → ((k : ℕ) → g k ≡ f k + cond (eqb k m) v 0) → m < n → total g n ≡ total f n + v
total_at f g m v zero e h = omega arith
total_at f g m v (suc n) e h =
    ⊎_elim
    (λ (l : m < n). omega (arith, total_at f g m v n e l, e n, same_not n m v (λ q. omega arith)))
    (λ (l : n ≤ m).
    let below : total g n ≡ total f n = total_same g f n (λ k s. let z : cond (eqb k m) v 0 ≡ 0 = same_not k m v (λ q. omega arith) in omega (arith, e k)) in
    omega (arith, e n, same_yes n m v (omega arith)))
    (cases_lt m n)

pub over_at : (f g : ℕ → ℕ) (m v : ℕ) → ((k : ℕ) → g k ≡ f k + cond (eqb k m) v 0) → m < materials → over_materials g ≡ over_materials f + v
unfolding over_materials
over_at f g m v e h = total_at f g m v materials e h

pub over_same : (f g : ℕ → ℕ) → ((k : ℕ) → g k ≡ f k) → over_materials g ≡ over_materials f
unfolding over_materials
over_same f g e = total_same g f materials (λ k _. e k)

-- a list with v more at one place
pub set_more : (xs : List ℕ) (m v : ℕ) → m < length xs → (k : ℕ) → get_or (set xs m (get_or xs m 0 + v)) k 0 ≡ get_or xs k 0 + cond (eqb k m) v 0
set_more xs m v h k =
    ⊎_elim
    (λ (e : k ≡ m).
    let s : get_or (set xs m (get_or xs m 0 + v)) k 0 ≡ get_or xs m 0 + v = ap (λ n. get_or (set xs m (get_or xs m 0 + v)) n 0) e ∙ get_or-set_same xs m (get_or xs m 0 + v) 0 h in
    let t : get_or xs k 0 ≡ get_or xs m 0 = ap (λ n. get_or xs n 0) e in
    omega (arith, same_yes k m v e))
    (λ (e : k ≢ m). omega (arith, get_or-set_other xs m k (get_or xs m 0 + v) 0 e, same_not k m v e))
    (cases_eq k m)

-- all volumes after one block more
pub noted_all : (t u : Tallies) (x : Block) → Noted t u x → x.material < materials → over_materials (volume_held u) ≡ over_materials (volume_held t) + volume_of x.cuboid
noted_all t u x n h = over_at (volume_held t) (volume_held u) x.material (volume_of x.cuboid) n.volume h

pub over_none : (f : ℕ → ℕ) → ((k : ℕ) → f k ≡ 0) → over_materials f ≡ 0
unfolding over_materials
over_none f e = total_same f (λ _. 0) materials (λ k _. e k)

-- the blocks that are drawn after one block more
pub drawn_more : (t u : Tallies) (x : Block) → Noted t u x → x.material < materials → drawn_of u ≡ drawn_of t + cond (eqb x.material 0) 0 1
drawn_more t u x n h =
    let all : over_materials (count_of u) ≡ over_materials (count_of t) + 1 = over_at (count_of t) (count_of u) x.material 1 n.count h in
    let void = n.count 0 in
    let few = part_le (count_of t) 0 (omega arith) in
    ⊎_elim
    (λ (e : x.material ≡ 0).
    omega (arith, same_yes 0 x.material 1 (sym e), ap {B = ℕ} (λ b. cond b 0 1) (eq-eqb x.material 0 e)))
    (λ (e : x.material ≡ 0 → ⊥).
    omega (arith, same_not 0 x.material 1 (λ q. e (sym q)), ap {B = ℕ} (λ b. cond b 0 1) (ne_eqb x.material 0 e)))
    (cases_eq x.material 0)
