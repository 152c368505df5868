-- What the row of a split needs of its parts.
use Rattle.std.proofs.Common.{◌≡◌, ℕ, zero, suc, ◌+◌, ◌-◌, ◌<◌, ◌≤◌, false, Ok, cond, ◌&&◌, eqb, ltb, ◌⊎◌, List, [], ◌∷◌, ◌++◌, length, Err, sym, refl, ap, ◌∙◌, subst, ⊎_elim, arith, length-append}
use Rattle.std.proofs.lemmas.List.{map_push, append_assoc, append-nil}
use Rattle.std.proofs.lemmas.Bool.{cond-true, cond-false, lt-ltb, le-ltb, ne_eqb, and_left, and_right}
use Rattle.geometry.specs.declared.units.Mm.{Mm}
use Rattle.geometry.specs.declared.units.Weight.{Weight}
use Rattle.geometry.specs.Limits.{least}
use Rattle.geometry.proofs.Totals.{total_part, total_front}
use Rattle.rows.specs.declared.size.Size.{Size}
use Rattle.rows.specs.declared.size.Size.TheVariants.{Fix, Float}
use Rattle.rows.specs.declared.part.Part.{Part}
use Rattle.rows.specs.declared.row.Segment.{Segment}
use Rattle.rows.specs.declared.refusal.RowRefusal.TheVariants.{Vanishes, SpareLeft}
use Rattle.rows.specs.Sizes.{amount, highest, InRange}
use Rattle.rows.specs.Apportion.{left_over, floating}
use Rattle.rows.specs.Rows.{sizes, fixed_sum, floats, weight_at, weight_sum, laid, thin, unless_thin, filled, split_row, lengths_of}
use Rattle.rows.proofs.Remainders.{left_few}

pub parts_sound : (ps : List Part) → InRange (sizes ps)
parts_sound [] = tt
parts_sound (p ∷ ps) = ((p.low, p.high), parts_sound ps)

-- a part that was read as floating
pub float_small : (p : Part) (w : Weight) → p.size ≡ Float w → w.0 ≤ 1000
float_small p w e = subst (λ (s : Size). amount s ≤ highest s) e p.high

-- one more weight
sum_front : (w : Weight) (ws : List Weight) → weight_sum (w ∷ ws) ≡ w.0 + weight_sum ws
sum_front w ws = total_front (weight_at (w ∷ ws)) (length ws)

pub sum_push : (ws : List Weight) (w : Weight) → weight_sum (ws ++ w ∷ []) ≡ weight_sum ws + w.0
sum_push [] w = omega arith
sum_push (x ∷ ws) w = omega (arith, sum_front x (ws ++ w ∷ []), sum_push ws w, sum_front x ws)

-- one more segment of a row
pub row_more : (gs hs : List Segment) (g : Segment) (rest : List ℕ) → hs ≡ gs ++ g ∷ [] → lengths_of hs ++ rest ≡ lengths_of gs ++ (g.length.0 ∷ rest)
row_more gs hs g rest e =
    ap (λ t. lengths_of t ++ rest) e
    ∙ ap (λ t. t ++ rest) (map_push (λ x. x.length.0) gs g)
    ∙ append_assoc (lengths_of gs) (g.length.0 ∷ []) rest

-- a row looks only at the lengths of its floating parts
laid_same : (f g : ℕ → ℕ) (k : ℕ) (ss : List Size) → ((j : ℕ) → j < k + length (floats ss) → f j ≡ g j) → laid f k ss ≡ laid g k ss
laid_same f g k [] h = refl
laid_same f g k (Fix m ∷ ss) h = ap (λ t. m.0 ∷ t) (laid_same f g k ss h)
laid_same f g k (Float w ∷ ss) h =
    let a = h k (omega arith) in
    let b = laid_same f g (k + 1) ss (λ j l. h j (omega arith)) in
    cc

thin_same : (f g : ℕ → ℕ) (k i : ℕ) (ss : List Size) → ((j : ℕ) → j < k + length (floats ss) → f j ≡ g j) → thin f k i ss ≡ thin g k i ss
thin_same f g k i [] h = refl
thin_same f g k i (Fix m ∷ ss) h = thin_same f g k (i + 1) ss h
thin_same f g k i (Float w ∷ ss) h =
    let a = h k (omega arith) in
    let b = thin_same f g (k + 1) (i + 1) ss (λ j l. h j (omega arith)) in
    cc

filled_same : (f g : ℕ → ℕ) (ss : List Size) → ((j : ℕ) → j < length (floats ss) → f j ≡ g j) → filled f ss ≡ filled g ss
filled_same f g ss h =
    let a = laid_same f g 0 ss (λ j l. h j (omega arith)) in
    let b = thin_same f g 0 0 ss (λ j l. h j (omega arith)) in
    cc

-- the same, where the next length has been taken from g
laid_next : (g h : ℕ → ℕ) (k : ℕ) (ss : List Size) → ((j : ℕ) → g (j + 1) ≡ h j) → laid g (k + 1) ss ≡ laid h k ss
laid_next g h k [] e = refl
laid_next g h k (Fix m ∷ ss) e = ap (λ t. m.0 ∷ t) (laid_next g h k ss e)
laid_next g h k (Float w ∷ ss) e =
    let a = e k in
    let b = laid_next g h (k + 1) ss e in
    cc

thin_next : (g h : ℕ → ℕ) (k i : ℕ) (ss : List Size) → ((j : ℕ) → g (j + 1) ≡ h j) → thin g (k + 1) i ss ≡ thin h k i ss
thin_next g h k i [] e = refl
thin_next g h k i (Fix m ∷ ss) e = thin_next g h k (i + 1) ss e
thin_next g h k i (Float w ∷ ss) e =
    let a = e k in
    let b = thin_next g h (k + 1) (i + 1) ss e in
    cc

-- the i segments gs are laid of a row of the parts `all` with lengths f, and the parts ss with lengths g are still to come
pub record Laying (f : ℕ → ℕ) (all : List Size) (gs : List Segment) (i : ℕ) (g : ℕ → ℕ) (ss : List Size) : Type 0 where
  pub lengths : lengths_of gs ++ laid g 0 ss ≡ laid f 0 all
  pub thick : thin g 0 i ss ≡ thin f 0 0 all
  pub count : length gs ≡ i

-- the lengths from the i-th on
abbrev pub onward : (ℕ → ℕ) → ℕ → ℕ → ℕ
onward f i j = f (i + j)

module _ (f : ℕ → ℕ) (all : List Size) (gs : List Segment) (i : ℕ) (g : ℕ → ℕ) where
  pub lay_fixed : (hs : List Segment) (m : Mm) (ss : List Size) → Laying f all gs i g (Fix m ∷ ss) → hs ≡ gs ++ record { length = m } ∷ [] → Laying f all hs (i + 1) g ss
  lay_fixed hs m ss l e = record {
    lengths = row_more gs hs (record { length = m }) (laid g 0 ss) e ∙ l.lengths;
    thick = l.thick;
    count = ap length e ∙ length-append gs (record { length = m } ∷ []) ∙ ap (λ n. n + 1) l.count;
  }

  pub lay_floating : (hs : List Segment) (h : ℕ → ℕ) (m : Mm) (w : Weight) (ss : List Size) → Laying f all gs i g (Float w ∷ ss) → hs ≡ gs ++ record { length = m } ∷ []
      → m.0 ≡ g 0 → least ≤ m.0 → ((j : ℕ) → g (j + 1) ≡ h j) → Laying f all hs (i + 1) h ss
  lay_floating hs h m w ss l e is long next = record {
    lengths =
        row_more gs hs (record { length = m }) (laid h 0 ss) e
        ∙ ap (λ t. lengths_of gs ++ (m.0 ∷ t)) (sym (laid_next g h 0 ss next))
        ∙ ap (λ x. lengths_of gs ++ (x ∷ laid g 1 ss)) is
        ∙ l.lengths;
    thick =
        sym (thin_next g h 0 (i + 1) ss next)
        ∙ sym (cond-false _ _ _ (le-ltb (g 0) least (omega arith)))
        ∙ l.thick;
    count = ap length e ∙ length-append gs (record { length = m } ∷ []) ∙ ap (λ n. n + 1) l.count;
  }

  pub lay_vanishes : (w : Weight) (ss : List Size) → Laying f all gs i g (Float w ∷ ss) → g 0 < least → filled f all ≡ Err (Vanishes (i + 1))
  lay_vanishes w ss l short =
      ap (unless_thin (laid f 0 all)) (sym l.thick ∙ cond-true _ _ _ (lt-ltb (g 0) least short))

  pub lay_end : Laying f all gs i g [] → filled f all ≡ Ok (lengths_of gs)
  lay_end l =
      ap (unless_thin (laid f 0 all)) (sym l.thick)
      ∙ ap (λ t. Ok t) (sym l.lengths ∙ append-nil (lengths_of gs))

-- the weights of sound parts
pub sound_weights : (ss : List Size) → InRange ss → (k : ℕ) → k < length (floats ss) → (1 ≤ weight_at (floats ss) k) × (weight_at (floats ss) k ≤ 1000)
sound_weights [] s k h = (omega arith, omega arith)
sound_weights (Fix m ∷ ss) s k h = sound_weights ss s.1 k h
sound_weights (Float w ∷ ss) s zero h = s.0
sound_weights (Float w ∷ ss) s (suc k) h = sound_weights ss s.1 k (omega arith)

pub sum_positive : (ss : List Size) → InRange ss → 0 < length (floats ss) → 0 < weight_sum (floats ss)
sum_positive ss s h =
    omega (arith, total_part (weight_at (floats ss)) (length (floats ss)) 0 h, (sound_weights ss s 0 h).0)

-- the definition at what the code holds: the rest, the weights and their sum
pub at_code : {X : Type 0} (F : ℕ → (ℕ → ℕ) → ℕ → ℕ → X) (ws vs : List Weight) (R Q W : ℕ) → ws ≡ vs → R ≡ Q → W ≡ weight_sum ws
    → F R (weight_at ws) W (length ws) ≡ F Q (weight_at vs) (weight_sum vs) (length vs)
at_code F ws vs R Q W e r s =
    ap (λ x. F R (weight_at ws) x (length ws)) s
    ∙ ap (λ x. F x (weight_at ws) (weight_sum ws) (length ws)) r
    ∙ ap (λ x. F Q (weight_at x) (weight_sum x) (length x)) e

-- the lengths of the floating parts in a scope of length L
abbrev pub lengths_in : ℕ → List Size → ℕ → ℕ
lengths_in L ss = floating (L - fixed_sum ss) (weight_at (floats ss)) (weight_sum (floats ss)) (length (floats ss))

-- the millimetres left when each floating part has its whole share
abbrev pub left_in : ℕ → List Size → ℕ
left_in L ss = left_over (L - fixed_sum ss) (weight_at (floats ss)) (weight_sum (floats ss)) (length (floats ss))

-- a part floats, or nothing is left beside the fixed parts
abbrev pub Served : ℕ → List Size → Type 0
Served L ss = (0 < length (floats ss)) ⊎ (L - fixed_sum ss ≤ 0)

-- no more is left than parts float
pub left_fits : (L : ℕ) (ss : List Size) → InRange ss → Served L ss → left_in L ss ≤ length (floats ss)
left_fits L ss sound some =
    ⊎_elim
    (λ (a : 0 < length (floats ss)). omega (arith, left_few (L - fixed_sum ss) (weight_at (floats ss)) (length (floats ss)) (sum_positive ss sound a)))
    (λ (b : L - fixed_sum ss ≤ 0). omega arith)
    some

module _ (L : ℕ) (ss : List Size) (fits : fixed_sum ss ≤ L) (some : Served L ss) where
  -- neither too long nor without a floating part
  served : split_row L ss ≡ cond (ltb (length (floats ss)) (left_in L ss)) (Err SpareLeft) (filled (lengths_in L ss) ss)
  served =
      let test : (eqb (length (floats ss)) 0 && ltb 0 (L - fixed_sum ss)) ≡ false =
      ⊎_elim
      (λ (a : 0 < length (floats ss)). and_left (eqb (length (floats ss)) 0) (ltb 0 (L - fixed_sum ss)) (ne_eqb (length (floats ss)) 0 (λ e. omega arith)))
      (λ (b : L - fixed_sum ss ≤ 0). and_right (eqb (length (floats ss)) 0) (ltb 0 (L - fixed_sum ss)) (le-ltb 0 (L - fixed_sum ss) b))
      some in
      cond-false _ _ _ (le-ltb L (fixed_sum ss) fits) ∙ cond-false _ _ _ test

  pub split_spare : length (floats ss) < left_in L ss → split_row L ss ≡ Err SpareLeft
  split_spare h = served ∙ cond-true _ _ _ (lt-ltb (length (floats ss)) (left_in L ss) h)

  pub split_filled : left_in L ss ≤ length (floats ss) → split_row L ss ≡ filled (lengths_in L ss) ss
  split_filled h = served ∙ cond-false _ _ _ (le-ltb (length (floats ss)) (left_in L ss) h)

  pub split_row_lem : left_in L ss ≤ length (floats ss) → (f : ℕ → ℕ) → ((k : ℕ) → k < length (floats ss) → f k ≡ lengths_in L ss k) → filled f ss ≡ split_row L ss
  split_row_lem h f same = filled_same f (lengths_in L ss) ss same ∙ sym (split_filled h)
