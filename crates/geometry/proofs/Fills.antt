-- Pieces that fill a box, along any axis.
use Rattle.std.proofs.Common.{◌≡◌, ℕ, ◌+◌, ◌-◌, ◌*◌, ◌≤◌, min, max, List, [], ◌∷◌, sym, refl, ap, ◌∙◌, add-zero, mul_assoc, mul_comm, add-mul, zero-mul, arith}
use Rattle.geometry.specs.declared.span.Span.{Span}
use Rattle.geometry.specs.declared.axis.Axis.{Axis}
use Rattle.geometry.specs.declared.axis.Axis.TheVariants.{X, Y, Z}
use Rattle.geometry.specs.declared.cuboid.Cuboid.{Cuboid}
use Rattle.geometry.specs.Sums.{sum_of}
use Rattle.geometry.specs.Boxes.{span_on, with_span, product, extent, overlap}
use Rattle.geometry.specs.Laws.{Laid, PiecesShare}

-- a measure of stretches by their ends that adds where a stretch is cut
abbrev Adds : (ℕ → ℕ → ℕ) → Type 0
Adds F = (a b c : ℕ) → a ≤ b → b ≤ c → F a b + F b c ≡ F a c

none : (F : ℕ → ℕ → ℕ) → Adds F → (a : ℕ) → F a a ≡ 0
none F h a = omega (arith, h a a a (omega arith) (omega arith))

overlap_adds : (l h : ℕ) → l ≤ h → Adds (λ a b. min h b - max l a)
overlap_adds l h p a b c q r = omega arith

length_adds : Adds (λ a b. b - a)
length_adds a b c q r = omega arith

-- of three numbers for the axes, that of one axis and the product of the others
abbrev by : {A : Type 0} → A → A → A → Axis → A
by f g h X = f
by f g h Y = g
by f g h Z = h

abbrev beside : (Span → ℕ) → (Span → ℕ) → (Span → ℕ) → Axis → Cuboid → ℕ
beside f g h X c = g c.y * h c.z
beside f g h Y c = f c.x * h c.z
beside f g h Z c = f c.x * g c.y

-- the only lemma that goes by cases on the axis
factor : (f g h : Span → ℕ) (a : Axis) (c : Cuboid) (t : Span) → product f g h (with_span a t c) ≡ by f g h a t * beside f g h a c
factor f g h X c t = mul_assoc _ _ _
factor f g h Y c t = ap (λ n. n * h c.z) (mul_comm (f c.x) (g t)) ∙ mul_assoc _ _ _
factor f g h Z c t = mul_comm _ _

same : (a : Axis) (c : Cuboid) → with_span a (span_on a c) c ≡ c
same X c = refl
same Y c = refl
same Z c = refl

-- a quantity that is a measure of the stretch on one axis, times what is beside it, over a row of pieces
row : (q : Cuboid → ℕ) (F : ℕ → ℕ → ℕ) (k : ℕ) → Adds F → (c : Cuboid) (a : Axis)
    → ((t : Span) → q (with_span a t c) ≡ F t.at.0 (t.at.0 + t.size.0) * k)
    → (o : ℕ) (ls : List ℕ) (ps : List Cuboid) → Laid c a o ls ps
    → sum_of q ps ≡ F ((span_on a c).at.0 + o) ((span_on a c).at.0 + o + sum_of (λ l. l) ls) * k
row q F k h c a w o [] [] u = sym (ap (λ n. F ((span_on a c).at.0 + o) n * k) (add-zero _) ∙ ap (λ n. n * k) (none F h _) ∙ zero-mul k)
row q F k h c a w o [] (p ∷ ps) u = elim u [ ]
row q F k h c a w o (l ∷ ls) [] u = elim u [ ]
row q F k h c a w o (l ∷ ls) (p ∷ ps) (m, rest) =
    let x : ℕ = (span_on a c).at.0 + o in
    let end : ℕ = x + l + sum_of (λ l. l) ls in
    let t = m.0 in
    let here : q p ≡ F x (x + l) * k =
    ap q m.2 ∙ w t ∙ ap (λ n. F t.at.0 (t.at.0 + n) * k) m.1.1 ∙ ap (λ n. F n (n + l) * k) m.1.0 in
    let y : (span_on a c).at.0 + (o + l) ≡ x + l = omega arith in
    let more : sum_of q ps ≡ F (x + l) end * k = row q F k h c a w (o + l) ls ps rest ∙ ap (λ n. F n (n + sum_of (λ l. l) ls) * k) y in
    let z : end ≡ x + (l + sum_of (λ l. l) ls) = omega arith in
    let cut : F x (x + l) + F (x + l) end ≡ F x end = h x (x + l) end (omega arith) (omega arith) in
    let sums : q p + sum_of q ps ≡ F x (x + l) * k + F (x + l) end * k = cc in
    sums ∙ sym (add-mul _ _ k) ∙ ap (λ n. n * k) cut ∙ ap (λ n. F x n * k) z

-- for a product of three measures that add
fills : (f g h : Span → ℕ) (F : Axis → ℕ → ℕ → ℕ) → ((a : Axis) → Adds (F a))
    → ((a : Axis) (t : Span) → by f g h a t ≡ F a t.at.0 (t.at.0 + t.size.0))
    → (c : Cuboid) (a : Axis) (ls : List ℕ) (ps : List Cuboid) → Laid c a 0 ls ps → sum_of (λ l. l) ls ≡ (span_on a c).size.0
    → sum_of (product f g h) ps ≡ product f g h c
fills f g h F adds is c a ls ps laid e =
    let k = beside f g h a c in
    let w : (t : Span) → product f g h (with_span a t c) ≡ F a t.at.0 (t.at.0 + t.size.0) * k = λ t. factor f g h a c t ∙ ap (λ n. n * k) (is a t) in
    row (product f g h) (F a) k (adds a) c a w 0 ls ps laid
    ∙ ap (λ n. F a n (n + sum_of (λ l. l) ls) * k) (add-zero (span_on a c).at.0)
    ∙ ap (λ n. F a (span_on a c).at.0 ((span_on a c).at.0 + n) * k) e
    ∙ sym (w (span_on a c)) ∙ ap (product f g h) (same a c)

pub pieces_share : PiecesShare
pieces_share c a ls ps laid e = record {
  cells = λ g d.
      let low : Axis → ℕ = by (d.i * g) (d.j * g) (d.k * g) in
      fills (overlap g d.i) (overlap g d.j) (overlap g d.k) (λ b x y. min (low b + g) y - max (low b) x)
      (λ b. overlap_adds (low b) (low b + g) (omega arith))
      (λ b t. elim b as (λ b. by (overlap g d.i) (overlap g d.j) (overlap g d.k) b t ≡ min (by (d.i * g) (d.j * g) (d.k * g) b + g) (t.at.0 + t.size.0) - max (by (d.i * g) (d.j * g) (d.k * g) b) t.at.0) [ X ↦ refl | Y ↦ refl | Z ↦ refl ])
      c a ls ps laid e;
  whole = fills extent extent extent (λ b x y. y - x) (λ b. length_adds) sizes c a ls ps laid e;
}
  where
    sizes : (b : Axis) (t : Span) → by extent extent extent b t ≡ t.at.0 + t.size.0 - t.at.0
    sizes X t = omega arith
    sizes Y t = omega arith
    sizes Z t = omega arith
