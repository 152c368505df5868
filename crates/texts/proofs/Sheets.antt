-- The text of a block and of a bill, and their lengths.
use Rattle.std.proofs.Common.{◌≡◌, ℕ, zero, suc, ◌+◌, ◌*◌, ◌^◌, ◌<◌, ◌≤◌, cond, eqb, List, [], ◌∷◌, ◌++◌, length, get_or, ap, ◌∙◌, ⊎_elim, add-one, arith, length-append}
use Rattle.std.proofs.lemmas.Bool.{cases_eq, eq-eqb, ne_eqb, cond-true, cond-false}
use Rattle.geometry.specs.declared.block.Block.{Block}
use Rattle.sinks.specs.Meaning.{materials, over_materials}
use Rattle.sinks.specs.Tallied.{count_of, volume_held}
use Rattle.sinks.specs.declared.tally.Tallies.{Tallies}
use Rattle.sinks.proofs.Materials.{over_same, number_le}
use Rattle.texts.specs.declared.line.LineKind.TheVariants.{Group, Material, Sum}
use Rattle.texts.specs.Lines.{line_text, up_to}
use Rattle.texts.specs.Drawings.{vertex_line, face_line, block_text}
use Rattle.texts.specs.Bills.{material_line, sum_line, bill_text, tallies_text}
use Rattle.texts.proofs.Texts.{up_none, length_up_more, up_same, line_few}

pub block_void : (d : ℕ) (b : Block) → b.material ≡ 0 → block_text d b ≡ []
unfolding block_text
block_void d b e = cond-true (eqb b.material 0) _ _ (eq-eqb b.material 0 e)

pub block_drawn : (d : ℕ) (b : Block) → (b.material ≡ 0 → ⊥)
    → block_text d b ≡ line_text Group b.material [] ++ up_to (vertex_line b.cuboid) 8 ++ up_to (face_line d) 6
unfolding block_text
block_drawn d b e = cond-false (eqb b.material 0) _ _ (ne_eqb b.material 0 e)

pub length_block : (d : ℕ) (b : Block) → (b.material ≡ 0 → ⊥)
    → length (block_text d b) ≡ length (line_text Group b.material []) + length (up_to (vertex_line b.cuboid) 8) + length (up_to (face_line d) 6)
length_block d b e =
    ap length (block_drawn d b e)
    ∙ length-append (line_text Group b.material [] ++ up_to (vertex_line b.cuboid) 8) (up_to (face_line d) 6)
    ∙ ap (λ n. n + length (up_to (face_line d) 6)) (length-append (line_text Group b.material []) (up_to (vertex_line b.cuboid) 8))

pub length_bill : (count volume : ℕ → ℕ) → length (bill_text count volume) ≡ length (up_to (material_line count volume) materials) + length (sum_line count volume)
unfolding bill_text
length_bill count volume = length-append (up_to (material_line count volume) materials) (sum_line count volume)

-- equal numbers give the same bill
material_same : (a b x y m : ℕ) → a ≡ b → x ≡ y → ◌≡◌ {A = List ℕ} (cond (eqb a 0) [] (line_text Material m (a ∷ x ∷ []))) (cond (eqb b 0) [] (line_text Material m (b ∷ y ∷ [])))
material_same a b x y m p q = cc

pub sum_same : (a b x y : ℕ) → a ≡ b → x ≡ y → line_text Sum a (x ∷ []) ≡ line_text Sum b (y ∷ [])
sum_same a b x y p q = cc

pub bill_same : (f g h k : ℕ → ℕ) → ((m : ℕ) → f m ≡ g m) → ((m : ℕ) → h m ≡ k m) → bill_text f h ≡ bill_text g k
unfolding bill_text
bill_same f g h k p q =
    ap (λ t. t ++ sum_line f h) (up_same (material_line f h) (material_line g k) materials (λ m _. material_same (f m) (g m) (h m) (k m) m (p m) (q m)))
    ∙ ap (λ t. up_to (material_line g k) materials ++ t) (sum_same _ _ _ _ (over_same g f p) (over_same k h q))

-- a bill is short, since no number of tallies passes the limit
up_few : (f : ℕ → List ℕ) (b n : ℕ) → ((k : ℕ) → k < n → length (f k) ≤ b) → length (up_to f n) ≤ b * n
up_few f b zero h = omega (arith, ap length (up_none f))
up_few f b (suc n) h =
    let e : n + 1 ≡ suc n = rw add-one in
    omega (arith, length_up_more f n, ap (λ (k : ℕ). length (up_to f k)) e, up_few f b n (λ k l. h k (omega arith)), h n (omega arith))

two_few : (a : ℕ) → a < 2 ^ 64 → (b : ℕ) → b < 2 ^ 64 → (k : ℕ) → get_or (a ∷ b ∷ []) k 0 < 2 ^ 64
two_few a p b q zero = p
two_few a p b q (suc zero) = q
two_few a p b q (suc (suc k)) = omega arith

one_few : (a : ℕ) → a < 2 ^ 64 → (k : ℕ) → get_or (a ∷ []) k 0 < 2 ^ 64
one_few a p zero = p
one_few a p (suc k) = omega arith

pub tallies_few : (t : Tallies) → length (tallies_text t) ≤ 1700
tallies_few t =
    let counts : (m : ℕ) → m < 16 → count_of t m < 2 ^ 64 = λ m h. omega (arith, number_le t.counts m h, t.some, t.limited) in
    let volumes : (m : ℕ) → m < 16 → volume_held t m < 2 ^ 64 = λ m h. omega (arith, number_le t.volumes m h, t.limited) in
    let line : (m : ℕ) → m < 16 → length (material_line (count_of t) (volume_held t) m) ≤ 100 = λ m h.
    ⊎_elim
    (λ (e : count_of t m ≡ 0). omega (arith, ap length (cond-true (eqb (count_of t m) 0) [] (line_text Material m (count_of t m ∷ volume_held t m ∷ [])) (eq-eqb _ _ e))))
    (λ (e : count_of t m ≡ 0 → ⊥).
    omega (
      arith,
      ap length (cond-false (eqb (count_of t m) 0) [] (line_text Material m (count_of t m ∷ volume_held t m ∷ [])) (ne_eqb _ _ e)),
      line_few Material m (count_of t m ∷ volume_held t m ∷ []) (omega arith) (two_few _ (counts m h) _ (volumes m h)),
    ))
    (cases_eq (count_of t m) 0) in
    omega (
      arith,
      length_bill (count_of t) (volume_held t),
      up_few (material_line (count_of t) (volume_held t)) 100 16 line,
      line_few Sum (over_materials (count_of t)) (over_materials (volume_held t) ∷ []) (omega (arith, t.counts.summed, t.some, t.limited)) (one_few _ (omega (arith, t.volumes.summed, t.limited))),
    )
