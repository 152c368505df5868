-- A test on numbers and names finds nothing in a spelling just if they are in order.
use Rattle.std.proofs.Common.{◌≡◌, ℕ, ◌-◌, ◌≤◌, Bool, true, false, cond, not, ◌&&◌, ltb, List, [], ◌∷◌, length, is_some, Some, None, Option, sym, refl, ap, ◌∙◌, subst, arith}
use Rattle.std.proofs.Math.Bool.{and-true, and_assoc}
use Rattle.std.proofs.lemmas.Bool.{lt-ltb, cond-false}
use Rattle.text.specs.Tokens.{Lexeme, closing, number, word}
use Rattle.grammar.proofs.Accepts.{then}
use Rattle.grammar.specs.Forms.{Axis, x_axis, y_axis, z_axis, Guard, guard, Part, fix, float, Body, make, refer, tile, split, Form, material, rule, lot, axis_text, spell_guards, spell_part, spell_parts, spell_body, spell, Fits, plain}
use Rattle.grammar.specs.Orders.{ordered_guards, ordered_part, ordered_parts, ordered_body, ordered, Tells, FirstWrong}
use Rattle.geometry.specs.Limits.{site, least}
use Rattle.grammar.specs.Wants.{Want, form, name, num, range, axis, shut, items, parts, more, size, weight_limit, low_of, onto, step, first_at, wrong_by, passes}
use Rattle.grammar.specs.declared.state.FileKind.{FileKind}
use Rattle.grammar.specs.declared.state.FileKind.TheVariants.{Rules, Lots}
use Rattle.grammar.specs.declared.state.Naming.{Naming}
use Rattle.grammar.specs.declared.state.Naming.TheVariants.{Declared, Own, Material, Rule}

found_wrong : (test : List Want → Lexeme → Bool) (ps : List (Lexeme × ℕ)) (xs : List Want)
    → is_some (first_at test xs ps) ≡ not (passes test xs (plain ps))
found_wrong test [] xs = refl
found_wrong test (p ∷ ps) xs =
    elim (test xs p.0) as (λ b.
    is_some (cond b (Some p.1) (elim (step xs p.0) [ None ↦ None | Some ys ↦ first_at test ys ps ]))
    ≡ not (cond b false (elim (step xs p.0) [ None ↦ true | Some ys ↦ passes test ys (plain ps) ]))) [
      | true ↦ refl
      | false ↦ elim (step xs p.0) as (λ o.
          is_some {T = ℕ} (elim o [ None ↦ None | Some ys ↦ first_at test ys ps ]) ≡ not (elim o [ None ↦ true | Some ys ↦ passes test ys (plain ps) ]))
          [ None ↦ refl | Some ys ↦ found_wrong test ps ys ]
    ]

-- one lexeme that passes
passes_one : (test : List Want → Lexeme → Bool) (xs : List Want) (t : Lexeme) (ts : List Lexeme) (o : Option (List Want)) → test xs t ≡ false → step xs t ≡ o
    → passes test xs (t ∷ ts) ≡ elim o [ None ↦ true | Some ys ↦ passes test ys ts ]
passes_one test xs t ts o e q =
    cond-false _ _ _ e ∙ ap (λ (o : Option (List Want)). elim o as (λ _. Bool) [ None ↦ true | Some ys ↦ passes test ys ts ]) q

grow : (test : List Want → Lexeme → Bool) (xs ys : List Want) (p : Lexeme × ℕ) (ps : List (Lexeme × ℕ)) (r : Option ℕ)
    → test xs p.0 ≡ false → step xs p.0 ≡ Some ys → FirstWrong test ys ps r → FirstWrong test xs (p ∷ ps) r
grow test xs ys p ps (Some c) e q f = (
  p ∷ f.0,
  f.1,
  f.2,
  ap (λ v. p ∷ v) f.3,
  f.4,
  ap (λ o. then o (plain f.0)) q ∙ f.5,
  passes_one test xs p.0 (plain f.0) (Some ys) e q ∙ f.6,
  f.7,
)
grow test xs ys p ps None e q f = passes_one test xs p.0 (plain ps) (Some ys) e q ∙ f

first_wrong : (test : List Want → Lexeme → Bool) (ps : List (Lexeme × ℕ)) (xs : List Want) → FirstWrong test xs ps (first_at test xs ps)
first_wrong test [] xs = refl
first_wrong test (p ∷ ps) xs =
    (elim (test xs p.0) as (λ b. test xs p.0 ≡ b
    → FirstWrong test xs (p ∷ ps) (cond b (Some p.1) (elim (step xs p.0) [ None ↦ None | Some ys ↦ first_at test ys ps ]))) [
      | true ↦ λ e. ([], p.0, ps, refl, xs, refl, refl, e)
      | false ↦ λ e. (elim (step xs p.0) as (λ o. step xs p.0 ≡ o → FirstWrong test xs (p ∷ ps) (elim o [ None ↦ None | Some ys ↦ first_at test ys ps ])) [
        | None ↦ λ q. passes_one test xs p.0 (plain ps) None e q
        | Some ys ↦ λ q. grow test xs ys p ps (first_at test ys ps) e q (first_wrong test ps ys)
      ]) refl
    ]) refl

pub wrong_first : (test : List Want → Lexeme → Bool) (ps : List (Lexeme × ℕ)) (xs : List Want) (r : Option ℕ) → r ≡ first_at test xs ps → FirstWrong test xs ps r
wrong_first test ps xs r e = subst (FirstWrong test xs ps) (sym e) (first_wrong test ps xs)

passed : (a b : Bool) → cond (not a) false b ≡ (a && b)
passed true b = refl
passed false b = refl

flat : (a b c : Bool) → (a && (b && c)) ≡ ((a && b) && c)
flat a b c = sym (and_assoc a b c)

-- seven tests one after the other
chain : (a b c d e f g : Bool)
    → cond (not a) false (cond (not b) false (cond (not c) false (cond (not d) false (cond (not e) false (cond (not f) false (cond (not g) false true))))))
    ≡ (a && (b && (c && (d && (e && (f && g))))))
chain false b c d e f g = refl
chain true false c d e f g = refl
chain true true false d e f g = refl
chain true true true false e f g = refl
chain true true true true false f g = refl
chain true true true true true false g = refl
chain true true true true true true false = refl
chain true true true true true true true = refl

module _ (N : ℕ × ℕ → List ℕ → Bool) (M : Naming → List ℕ → Bool) where
  abbrev ok : List Want → List Lexeme → Bool
  ok = passes (wrong_by N M)

  ok_number : (r : ℕ × ℕ) (w : List ℕ) (xs : List Want) (us : List Lexeme)
      → ok (num r.0 r.1 ∷ xs) (number w ∷ us) ≡ (N r w && ok xs us)
  ok_number r w xs us = passed (N r w) (ok xs us)

  ok_name : (n : Naming) (w : List ℕ) (xs : List Want) (us : List Lexeme) → ok (name n ∷ xs) (word w ∷ us) ≡ (M n w && ok xs us)
  ok_name n w xs us = passed (M n w) (ok xs us)

  -- a number and a name, and the bracket after them
  ok_both : (r : ℕ × ℕ) (n : Naming) (v w : List ℕ) (xs : List Want) (us : List Lexeme)
      → ok (num r.0 r.1 ∷ name n ∷ shut ∷ xs) (number v ∷ word w ∷ closing ∷ us) ≡ ((N r v && M n w) && ok xs us)
  ok_both r n v w xs us =
      ok_number r v (name n ∷ shut ∷ xs) (word w ∷ closing ∷ us)
      ∙ (ap (λ b. N r v && b) (ok_name n w (shut ∷ xs) (closing ∷ us)) ∙ flat (N r v) (M n w) (ok xs us))

  ok_axis : (a : Axis) (xs : List Want) (us : List Lexeme) → ok (axis ∷ xs) (word (axis_text a) ∷ us) ≡ ok xs us
  ok_axis x_axis xs us = refl
  ok_axis y_axis xs us = refl
  ok_axis z_axis xs us = refl

  ok_part : (p : Part) (xs : List Want) (us : List Lexeme) → ok (more ∷ xs) (spell_part p us) ≡ (ordered_part N M p && ok (more ∷ xs) us)
  ok_part (fix n w) xs us = ok_both (least, site) Rule n w (more ∷ xs) us
  ok_part (float n w) xs us = ok_both (1, weight_limit) Rule n w (more ∷ xs) us

  ok_first : (p : Part) (xs : List Want) (us : List Lexeme) → ok (parts ∷ xs) (spell_part p us) ≡ (ordered_part N M p && ok (more ∷ xs) us)
  ok_first (fix n w) xs us = ok_both (least, site) Rule n w (more ∷ xs) us
  ok_first (float n w) xs us = ok_both (1, weight_limit) Rule n w (more ∷ xs) us

  ok_more : (ps : List Part) (xs : List Want) (us : List Lexeme)
      → ok (more ∷ xs) (spell_parts ps (closing ∷ us)) ≡ (ordered_parts N M ps && ok xs us)
  ok_more [] xs us = refl
  ok_more (p ∷ ps) xs us =
      ok_part p xs (spell_parts ps (closing ∷ us))
      ∙ (ap (λ b. ordered_part N M p && b) (ok_more ps xs us) ∙ flat (ordered_part N M p) (ordered_parts N M ps) (ok xs us))

  ok_body_lem : (k : ℕ) (b : Body) (xs : List Want) (us : List Lexeme) → ok (items k ∷ xs) (spell_body b us) ≡ (ordered_body N M b && ok xs us)
  ok_body_lem k (make w) xs us = ok_name Material w (shut ∷ xs) (closing ∷ us)
  ok_body_lem k (refer w) xs us = ok_name Rule w (shut ∷ xs) (closing ∷ us)
  ok_body_lem k (tile a n w) xs us =
      ok_axis a (size ∷ name Rule ∷ shut ∷ xs) (number n ∷ word w ∷ closing ∷ us) ∙ ok_both (least, site) Rule n w xs us
  ok_body_lem k (split a p ps) xs us =
      ok_axis a (parts ∷ xs) (spell_part p (spell_parts ps (closing ∷ us)))
      ∙ (ok_first p xs (spell_parts ps (closing ∷ us))
      ∙ (ap (λ b. ordered_part N M p && b) (ok_more ps xs us) ∙ flat (ordered_part N M p) (ordered_parts N M ps) (ok xs us)))

  -- a guard where there may be one
  ok_guard : (k : ℕ) (a : Axis) (l h : List ℕ) (xs : List Want) (us : List Lexeme) → ltb 0 k ≡ true
      → ok (items k ∷ xs) (spell_guards (guard a l h ∷ []) us) ≡ (N (1, site) l && (N (low_of l, site) h && ok (items (k - 1) ∷ xs) us))
  ok_guard k a l h xs us e =
      ap (λ c. ◌&&◌ true (elim (onto (cond c (Some (axis ∷ range ∷ shut ∷ items (k - 1) ∷ [])) None) xs)
      [ None ↦ true | Some ys ↦ ok ys (word (axis_text a) ∷ number l ∷ number h ∷ closing ∷ us) ])) e
      ∙ (ok_axis a (range ∷ shut ∷ items (k - 1) ∷ xs) (number l ∷ number h ∷ closing ∷ us)
      ∙ (passed (N (1, site) l) _
      ∙ ap (λ b. N (1, site) l && b) (ok_number (low_of l, site) h (shut ∷ items (k - 1) ∷ xs) (closing ∷ us))))

  regroup : (a b c d e : Bool) → (a && (b && ((c && d) && e))) ≡ (((a && (b && c)) && d) && e)
  regroup true true c d e = refl
  regroup true false c d e = refl
  regroup false b c d e = refl

  ok_items : (k : ℕ) (gs : List Guard) (b : Body) (xs : List Want) (us : List Lexeme) → length gs ≤ k
      → ok (items k ∷ xs) (spell_guards gs (spell_body b us)) ≡ ((ordered_guards N M gs && ordered_body N M b) && ok xs us)
  ok_items k [] b xs us h = ok_body_lem k b xs us
  ok_items k (guard a l u ∷ gs) b xs us h =
      ok_guard k a l u xs (spell_guards gs (spell_body b us)) (lt-ltb 0 k (omega arith))
      ∙ (ap (λ t. N (1, site) l && (N (low_of l, site) u && t)) (ok_items (k - 1) gs b xs us (omega arith))
      ∙ regroup (N (1, site) l) (N (low_of l, site) u) (ordered_guards N M gs) (ordered_body N M b) (ok xs us))

  ok_form : (k : FileKind) (f : Form) → Fits k f → ok (form k ∷ []) (spell f) ≡ ordered N M f
  ok_form Rules (material w) h = ok_name Declared w (shut ∷ []) (closing ∷ []) ∙ and-true (M Declared w)
  ok_form Rules (rule w gs b) h =
      ok_name Own w (items 3 ∷ shut ∷ []) (spell_guards gs (spell_body b (closing ∷ [])))
      ∙ ap (λ t. M Own w && t) (ok_items 3 gs b (shut ∷ []) (closing ∷ []) h ∙ and-true (ordered_guards N M gs && ordered_body N M b))
  ok_form Rules (lot px py pz sx sy sz w) h = absurd h
  ok_form Lots (material w) h = absurd h
  ok_form Lots (rule w gs b) h = absurd h
  ok_form Lots (lot px py pz sx sy sz w) h =
      chain (N (0, site - 1) px) (N (0, site - 1) py) (N (0, site - 1) pz) (N (least, site) sx) (N (least, site) sy) (N (least, site) sz)
      (M Rule w)

  pub tells : (k : FileKind) (ps : List (Lexeme × ℕ)) (r : Option ℕ) → r ≡ first_at (wrong_by N M) (form k ∷ []) ps → Tells (ordered N M) k ps r
  tells k ps r e f h s =
      ap is_some e ∙ (found_wrong (wrong_by N M) ps (form k ∷ []) ∙ ap not (ap (ok (form k ∷ [])) s ∙ ok_form k f h))
