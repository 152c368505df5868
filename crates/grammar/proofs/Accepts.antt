-- The wants take exactly the spellings.
use Rattle.std.proofs.Common.{◌≡◌, ℕ, ◌-◌, ◌≤◌, Bool, true, false, cond, not, eqb, ltb, ◌⊎◌, List, [], ◌∷◌, ◌++◌, length, is_some, Some, None, codes, Option, sym, refl, ap, ◌∙◌, subst, inl, inr, ⊎_elim, arith}
use Rattle.std.proofs.lemmas.Slice.Eq.{bytes_eq-Decides}
use Rattle.std.proofs.lemmas.Bool.{or_cases, ltb-true, lt-ltb, eqb-true, false≢true}
use Rattle.std.specs.Str.{bytes_eq}
use Rattle.text.specs.Tokens.{Lexeme, opening, closing, number, word}
use Rattle.text.specs.Words.{is_axis}
use Rattle.grammar.specs.Forms.{Axis, x_axis, y_axis, z_axis, Guard, guard, Part, fix, float, Body, make, refer, tile, split, Form, material, rule, lot, axis_text, spell_guards, spell_part, spell_parts, spell_body, spell_form, Fits, Begins, plain, FirstStuck}
use Rattle.geometry.specs.Limits.{site}
use Rattle.grammar.specs.Wants.{Want, form, head, name, num, range, axis, shut, items, item, parts, more, part, corner, size, weight_limit, low_of, head_wants, item_wants, part_wants, at_opening, at_closing, at_number, at_word, onto, step, run, first_at, misplaced}
use Rattle.grammar.specs.declared.state.FileKind.{FileKind}
use Rattle.grammar.specs.declared.state.FileKind.TheVariants.{Rules, Lots}
use Rattle.grammar.specs.declared.state.Naming.TheVariants.{Declared, Own, Material, Rule}

-- a spelling is taken

runs_more : (ps : List Part) (xs : List Want) (us : List Lexeme) → run (more ∷ xs) (spell_parts ps (closing ∷ us)) ≡ run xs us
runs_more [] xs us = refl
runs_more (fix n w ∷ ps) xs us = runs_more ps xs us
runs_more (float n w ∷ ps) xs us = runs_more ps xs us

runs_parts : (p : Part) (ps : List Part) (xs : List Want) (us : List Lexeme)
    → run (parts ∷ xs) (spell_part p (spell_parts ps (closing ∷ us))) ≡ run xs us
runs_parts (fix n w) ps xs us = runs_more ps xs us
runs_parts (float n w) ps xs us = runs_more ps xs us

runs_axis : (a : Axis) (xs : List Want) (us : List Lexeme) → run (axis ∷ xs) (word (axis_text a) ∷ us) ≡ run xs us
runs_axis x_axis xs us = refl
runs_axis y_axis xs us = refl
runs_axis z_axis xs us = refl

runs_body : (k : ℕ) (b : Body) (xs : List Want) (us : List Lexeme) → run (items k ∷ xs) (spell_body b us) ≡ run xs us
runs_body k (make w) xs us = refl
runs_body k (refer w) xs us = refl
runs_body k (tile a n w) xs us = runs_axis a (size ∷ name Rule ∷ shut ∷ xs) (number n ∷ word w ∷ closing ∷ us)
runs_body k (split a p ps) xs us = runs_axis a (parts ∷ xs) (spell_part p (spell_parts ps (closing ∷ us))) ∙ runs_parts p ps xs us

-- what the rest gives where the first lexeme is answered by o
abbrev pub go : Option (List Want) → List Want → List Lexeme → Option (List Want)
go o xs us = elim (onto o xs) [ None ↦ None | Some ys ↦ run ys us ]

abbrev guard_wants : ℕ → List Want
guard_wants k = axis ∷ range ∷ shut ∷ items (k - 1) ∷ []

-- a guard where there may be one
runs_guard : (k : ℕ) (a : Axis) (l h : List ℕ) (xs : List Want) (us : List Lexeme) → ltb 0 k ≡ true
    → run (items k ∷ xs) (spell_guards (guard a l h ∷ []) us) ≡ run (items (k - 1) ∷ xs) us
runs_guard k a l h xs us e =
    ap (λ c. go (cond c (Some (guard_wants k)) None) xs (word (axis_text a) ∷ number l ∷ number h ∷ closing ∷ us)) e
    ∙ runs_axis a (range ∷ shut ∷ items (k - 1) ∷ xs) (number l ∷ number h ∷ closing ∷ us)

runs_items : (k : ℕ) (gs : List Guard) (b : Body) (xs : List Want) (us : List Lexeme) → length gs ≤ k
    → run (items k ∷ xs) (spell_guards gs (spell_body b us)) ≡ run xs us
runs_items k [] b xs us h = runs_body k b xs us
runs_items k (guard a l u ∷ gs) b xs us h =
    runs_guard k a l u xs (spell_guards gs (spell_body b us)) (lt-ltb 0 k (omega arith)) ∙ runs_items (k - 1) gs b xs us (omega arith)

pub runs_form : (k : FileKind) (f : Form) (xs : List Want) (us : List Lexeme) → Fits k f → run (form k ∷ xs) (spell_form f us) ≡ run xs us
runs_form Rules (material w) xs us h = refl
runs_form Rules (rule w gs b) xs us h = runs_items 3 gs b (shut ∷ xs) (closing ∷ us) h
runs_form Rules (lot px py pz sx sy sz w) xs us h = absurd h
runs_form Lots (material w) xs us h = absurd h
runs_form Lots (rule w gs b) xs us h = absurd h
runs_form Lots (lot px py pz sx sy sz w) xs us h = refl

-- what is taken is a spelling

-- us begins with what is wanted, and vs is left
abbrev Reads : Want → List Lexeme → List Lexeme → Type 0
Reads (form k) us vs = (f : Form) × (Fits k f) × (us ≡ spell_form f vs)
Reads (head k) us vs = (f : Form) × (Fits k f) × (opening ∷ us ≡ spell_form f vs)
Reads (name n) us vs = (w : List ℕ) × (us ≡ word w ∷ vs)
Reads (num lo hi) us vs = (w : List ℕ) × (us ≡ number w ∷ vs)
Reads range us vs = (l : List ℕ) × (h : List ℕ) × (us ≡ number l ∷ number h ∷ vs)
Reads axis us vs = (a : Axis) × (us ≡ word (axis_text a) ∷ vs)
Reads shut us vs = us ≡ closing ∷ vs
Reads (items k) us vs = (gs : List Guard) × (b : Body) × (length gs ≤ k) × (us ≡ spell_guards gs (spell_body b vs))
Reads (item k) us vs = (gs : List Guard) × (b : Body) × (length gs ≤ k) × (opening ∷ us ≡ spell_guards gs (spell_body b vs))
Reads parts us vs = (p : Part) × (ps : List Part) × (us ≡ spell_part p (spell_parts ps (closing ∷ vs)))
Reads more us vs = (ps : List Part) × (us ≡ spell_parts ps (closing ∷ vs))
Reads part us vs = (p : Part) × (opening ∷ us ≡ spell_part p vs)

abbrev pub ReadsAll : List Want → List Lexeme → Type 0
ReadsAll [] us = us ≡ []
ReadsAll (x ∷ xs) us = (vs : List Lexeme) × (Reads x us vs) × (ReadsAll xs vs)

pub never : {X : Type 0} (z : X) → ◌≡◌ {A = Option X} None (Some z) → ⊥
never z e = let q : ◌≡◌ {A = ℕ} 0 1 = cc in omega arith

-- which lexeme it was

opened : (t : Lexeme) (ys xs : List Want) (us : List Lexeme) → go (at_opening ys t) xs us ≡ Some [] → (t ≡ opening) × (run (ys ++ xs) us ≡ Some [])
opened opening ys xs us e = (refl, e)
opened closing ys xs us e = absurd (never [] e)
opened (number w) ys xs us e = absurd (never [] e)
opened (word w) ys xs us e = absurd (never [] e)

closed : (t : Lexeme) (ys xs : List Want) (us : List Lexeme) → go (at_closing ys t) xs us ≡ Some [] → (t ≡ closing) × (run (ys ++ xs) us ≡ Some [])
closed opening ys xs us e = absurd (never [] e)
closed closing ys xs us e = (refl, e)
closed (number w) ys xs us e = absurd (never [] e)
closed (word w) ys xs us e = absurd (never [] e)

numbered : (t : Lexeme) (f : List ℕ → List Want) (xs : List Want) (us : List Lexeme) → go (at_number f t) xs us ≡ Some []
    → (w : List ℕ) × (t ≡ number w) × (run (f w ++ xs) us ≡ Some [])
numbered opening f xs us e = absurd (never [] e)
numbered closing f xs us e = absurd (never [] e)
numbered (number w) f xs us e = (w, refl, e)
numbered (word w) f xs us e = absurd (never [] e)

worded : (t : Lexeme) (f : List ℕ → Option (List Want)) (xs : List Want) (us : List Lexeme) → go (at_word f t) xs us ≡ Some []
    → (w : List ℕ) × (t ≡ word w) × (go (f w) xs us ≡ Some [])
worded opening f xs us e = absurd (never [] e)
worded closing f xs us e = absurd (never [] e)
worded (number w) f xs us e = absurd (never [] e)
worded (word w) f xs us e = (w, refl, e)

-- the word is the text, or what follows that test
pick : (w text : List ℕ) (o p : Option (List Want)) (xs : List Want) (us : List Lexeme)
    → go (cond (bytes_eq w text) o p) xs us ≡ Some [] → ((w ≡ text) × (go o xs us ≡ Some [])) ⊎ (go p xs us ≡ Some [])
pick w text o p xs us e =
    (elim (bytes_eq w text) as (λ s. bytes_eq w text ≡ s → go (cond s o p) xs us ≡ Some [] → ((w ≡ text) × (go o xs us ≡ Some [])) ⊎ (go p xs us ≡ Some []))
    [ true ↦ λ q e. inl ((bytes_eq-Decides w text).0 q, e) | false ↦ λ q e. inr e ]) refl e

-- the test was passed
passes : (a : Bool) (ys xs : List Want) (us : List Lexeme) → go (cond a (Some ys) None) xs us ≡ Some [] → (a ≡ true) × (run (ys ++ xs) us ≡ Some [])
passes true ys xs us e = (refl, e)
passes false ys xs us e = absurd (never [] e)

one_axis : (b : ℕ) → is_axis (b ∷ []) ≡ true → (a : Axis) × (b ∷ [] ≡ axis_text a)
one_axis b e =
    ⊎_elim (λ h. (x_axis, ap (λ c. c ∷ []) (eqb-true b 120 h)))
    (λ h. ⊎_elim (λ h. (y_axis, ap (λ c. c ∷ []) (eqb-true b 121 h))) (λ h. (z_axis, ap (λ c. c ∷ []) (eqb-true b 122 h)))
    (or_cases (eqb b 121) (eqb b 122) h)) (or_cases (eqb b 120) _ e)

axis_of_lem : (w : List ℕ) → is_axis w ≡ true → (a : Axis) × (w ≡ axis_text a)
axis_of_lem [] e = absurd (false≢true e)
axis_of_lem (b ∷ []) e = one_axis b e
axis_of_lem (b ∷ c ∷ w) e = absurd (false≢true e)

pub whole : (us : List Lexeme) (xs : List Want) → run xs us ≡ Some [] → ReadsAll xs us
whole [] [] e = refl
whole [] (x ∷ xs) e = absurd (let z : ◌≡◌ {A = ℕ} 0 1 = cc in omega arith)
whole (t ∷ us) [] e = absurd (never [] e)
whole (t ∷ us) (form k ∷ xs) e =
    let o = opened t (head k ∷ []) xs us e in
    let r = whole us (head k ∷ xs) o.1 in
    (r.0, (r.1.0, r.1.1, ap (λ s. s ∷ us) o.0 ∙ r.1.2), r.2)
whole (t ∷ us) (head Rules ∷ xs) e =
    let o = worded t (head_wants Rules) xs us e in
    ⊎_elim
    (λ h. let r = whole us (name Declared ∷ shut ∷ xs) h.1 in
    (r.2.0, (material r.1.0, tt, cc), r.2.2))
    (λ g. ⊎_elim
    (λ h. let r = whole us (name Own ∷ items 3 ∷ shut ∷ xs) h.1 in
    (r.2.2.0, (rule r.1.0 r.2.1.0 r.2.1.1, r.2.1.2, cc), r.2.2.2))
    (λ h. absurd (never [] h))
    (pick o.0 (codes "rule") _ None xs us g))
    (pick o.0 (codes "material") _ _ xs us o.2)
whole (t ∷ us) (head Lots ∷ xs) e =
    let o = worded t (head_wants Lots) xs us e in
    ⊎_elim
    (λ h. let r = whole us (corner ∷ corner ∷ corner ∷ size ∷ size ∷ size ∷ name Rule ∷ shut ∷ xs) h.1 in
    let a = r.2 in let b = a.2 in let c = b.2 in let d = c.2 in let f = d.2 in let g = f.2 in
    (g.2.0, (lot r.1.0 a.1.0 b.1.0 c.1.0 d.1.0 f.1.0 g.1.0, tt, cc), g.2.2))
    (λ h. absurd (never [] h))
    (pick o.0 (codes "lot") _ None xs us o.2)
whole (t ∷ us) (name n ∷ xs) e =
    let o = worded t (λ w. Some []) xs us e in (us, (o.0, ap (λ s. s ∷ us) o.1), whole us xs o.2)
whole (t ∷ us) (num lo hi ∷ xs) e =
    let o = numbered t (λ w. []) xs us e in (us, (o.0, ap (λ s. s ∷ us) o.1), whole us xs o.2)
whole (t ∷ us) (range ∷ xs) e =
    let o = numbered t (λ w. num (low_of w) site ∷ []) xs us e in
    let r = whole us (num (low_of o.0) site ∷ xs) o.2 in
    (r.0, (o.0, r.1.0, ap (λ s. s ∷ us) o.1 ∙ ap (λ v. number o.0 ∷ v) r.1.1), r.2)
whole (t ∷ us) (axis ∷ xs) e =
    let o = worded t (λ w. cond (is_axis w) (Some []) None) xs us e in
    let h = passes (is_axis o.0) [] xs us o.2 in
    let a = axis_of_lem o.0 h.0 in
    (us, (a.0, ap (λ s. s ∷ us) (o.1 ∙ ap word a.1)), whole us xs h.1)
whole (t ∷ us) (shut ∷ xs) e =
    let o = closed t [] xs us e in (us, ap (λ s. s ∷ us) o.0, whole us xs o.1)
whole (t ∷ us) (items k ∷ xs) e =
    let o = opened t (item k ∷ []) xs us e in
    let r = whole us (item k ∷ xs) o.1 in
    (r.0, (r.1.0, r.1.1, r.1.2, ap (λ s. s ∷ us) o.0 ∙ r.1.3), r.2)
whole (t ∷ us) (item k ∷ xs) e =
    let o = worded t (item_wants k) xs us e in
    ⊎_elim
    (λ h. let g = passes (ltb 0 k) (guard_wants k) xs us h.1 in
    let r = whole us (axis ∷ range ∷ shut ∷ items (k - 1) ∷ xs) g.1 in
    let s = r.2.2.2 in
    (s.0, (guard r.1.0 r.2.1.0 r.2.1.1 ∷ s.1.0, s.1.1, omega (arith, s.1.2, ltb-true 0 k g.0), cc), s.2))
    (λ e. ⊎_elim
    (λ h. let r = whole us (name Material ∷ shut ∷ xs) h.1 in
    (r.2.0, ([], make r.1.0, omega arith, cc), r.2.2))
    (λ e. ⊎_elim
    (λ h. let r = whole us (name Rule ∷ shut ∷ xs) h.1 in
    (r.2.0, ([], refer r.1.0, omega arith, cc), r.2.2))
    (λ e. ⊎_elim
    (λ h. let r = whole us (axis ∷ size ∷ name Rule ∷ shut ∷ xs) h.1 in
    (r.2.2.2.0, ([], tile r.1.0 r.2.1.0 r.2.2.1.0, omega arith, cc), r.2.2.2.2))
    (λ e. ⊎_elim
    (λ h. let r = whole us (axis ∷ parts ∷ xs) h.1 in
    (r.2.0, ([], split r.1.0 r.2.1.0 r.2.1.1, omega arith, cc), r.2.2))
    (λ h. absurd (never [] h))
    (pick o.0 (codes "split") _ None xs us e))
    (pick o.0 (codes "repeat") _ _ xs us e))
    (pick o.0 (codes "use") _ _ xs us e))
    (pick o.0 (codes "make") _ _ xs us e))
    (pick o.0 (codes "when") _ _ xs us o.2)
whole (t ∷ us) (parts ∷ xs) e =
    let o = opened t (part ∷ more ∷ []) xs us e in
    let r = whole us (part ∷ more ∷ xs) o.1 in
    (r.2.0, (r.1.0, r.2.1.0, cc), r.2.2)
whole (opening ∷ us) (more ∷ xs) e =
    let r = whole us (part ∷ more ∷ xs) e in (r.2.0, (r.1.0 ∷ r.2.1.0, cc), r.2.2)
whole (closing ∷ us) (more ∷ xs) e = (us, ([], refl), whole us xs e)
whole (number w ∷ us) (more ∷ xs) e = absurd (never [] e)
whole (word w ∷ us) (more ∷ xs) e = absurd (never [] e)
whole (t ∷ us) (part ∷ xs) e =
    let o = worded t part_wants xs us e in
    ⊎_elim
    (λ h. let r = whole us (size ∷ name Rule ∷ shut ∷ xs) h.1 in
    (r.2.2.0, (fix r.1.0 r.2.1.0, cc), r.2.2.2))
    (λ e. ⊎_elim
    (λ h. let r = whole us (num 1 weight_limit ∷ name Rule ∷ shut ∷ xs) h.1 in
    (r.2.2.0, (float r.1.0 r.2.1.0, cc), r.2.2.2))
    (λ h. absurd (never [] h))
    (pick o.0 (codes "float") _ None xs us e))
    (pick o.0 (codes "fix") _ _ xs us o.2)

-- a beginning that is taken can go on

-- one form of each file, after its bracket
abbrev fin_head : FileKind → List Lexeme → List Lexeme
fin_head Rules us = word (codes "material") ∷ word [] ∷ closing ∷ us
fin_head Lots us =
    word (codes "lot") ∷ number [] ∷ number [] ∷ number [] ∷ number [] ∷ number [] ∷ number [] ∷ word [] ∷ closing ∷ us

-- one way to give each want
abbrev fin : Want → List Lexeme → List Lexeme
fin (form k) us = opening ∷ fin_head k us
fin (head k) us = fin_head k us
fin (name n) us = word [] ∷ us
fin (num lo hi) us = number [] ∷ us
fin range us = number [] ∷ number [] ∷ us
fin axis us = word (codes "x") ∷ us
fin shut us = closing ∷ us
fin (items k) us = opening ∷ word (codes "make") ∷ word [] ∷ closing ∷ us
fin (item k) us = word (codes "make") ∷ word [] ∷ closing ∷ us
fin parts us = opening ∷ word (codes "fix") ∷ number [] ∷ word [] ∷ closing ∷ closing ∷ us
fin more us = closing ∷ us
fin part us = word (codes "fix") ∷ number [] ∷ word [] ∷ closing ∷ us

fins : (x : Want) (xs : List Want) (us : List Lexeme) → run (x ∷ xs) (fin x us) ≡ run xs us
fins (form Rules) xs us = refl
fins (form Lots) xs us = refl
fins (head Rules) xs us = refl
fins (head Lots) xs us = refl
fins (name n) xs us = refl
fins (num lo hi) xs us = refl
fins range xs us = refl
fins axis xs us = refl
fins shut xs us = refl
fins (items k) xs us = refl
fins (item k) xs us = refl
fins parts xs us = refl
fins more xs us = refl
fins part xs us = refl

finish : (xs : List Want) → (us : List Lexeme) × (run xs us ≡ Some [])
finish [] = ([], refl)
finish (x ∷ xs) = let r = finish xs in (fin x r.0, fins x xs r.0 ∙ r.1)

abbrev pub then : Option (List Want) → List Lexeme → Option (List Want)
then o us = elim o [ None ↦ None | Some ys ↦ run ys us ]

run_append : (ts us : List Lexeme) (xs : List Want) → run xs (ts ++ us) ≡ then (run xs ts) us
run_append [] us xs = refl
run_append (t ∷ ts) us xs =
    elim (step xs t) as (λ o. then o (ts ++ us) ≡ then (then o ts) us) [ None ↦ refl | Some ys ↦ run_append ts us ys ]

module _ (k : FileKind) where
  -- what was taken can go on
  goes_on : (ts : List Lexeme) (xs : List Want) → run (form k ∷ []) ts ≡ Some xs → Begins k ts
  goes_on ts xs e =
      let r = finish xs in
      let h : run (form k ∷ []) (ts ++ r.0) ≡ Some [] = run_append ts r.0 (form k ∷ []) ∙ (ap (λ o. then o r.0) e ∙ r.1) in
      let w = whole (ts ++ r.0) (form k ∷ []) h in
      (w.1.0, r.0, w.1.1, cc)

  -- what can go on was taken
  was_taken : (ts : List Lexeme) → Begins k ts → run (form k ∷ []) ts ≡ None → ⊥
  was_taken ts b e =
      let h : run (form k ∷ []) (ts ++ b.1) ≡ Some [] = ap (run (form k ∷ [])) (sym b.3) ∙ runs_form k b.0 [] [] b.2 in
      let g : run (form k ∷ []) (ts ++ b.1) ≡ None = run_append ts b.1 (form k ∷ []) ∙ ap (λ o. then o b.1) e in
      never [] (sym g ∙ h)

-- the place where the wants stop
abbrev pub Found : List Want → List (Lexeme × ℕ) → Option ℕ → Type 0
Found xs ps (Some c) =
    (front : List (Lexeme × ℕ)) × (t : Lexeme) × (back : List (Lexeme × ℕ)) × (ps ≡ front ++ (t, c) ∷ back)
    × (ys : List Want) × (run xs (plain front) ≡ Some ys) × (step ys t ≡ None)
Found xs ps None = (ys : List Want) × (run xs (plain ps) ≡ Some ys)

grow : (xs ys : List Want) (p : Lexeme × ℕ) (ps : List (Lexeme × ℕ)) (r : Option ℕ) → step xs p.0 ≡ Some ys → Found ys ps r → Found xs (p ∷ ps) r
grow xs ys p ps (Some c) e f =
    (p ∷ f.0, f.1, f.2, ap (λ v. p ∷ v) f.3, f.4, ap (λ o. then o (plain f.0)) e ∙ f.5, f.6)
grow xs ys p ps None e f = (f.0, ap (λ o. then o (plain ps)) e ∙ f.1)

pub found : (ps : List (Lexeme × ℕ)) (xs : List Want) → Found xs ps (first_at misplaced xs ps)
found [] xs = (xs, refl)
found (p ∷ ps) xs =
    (elim (step xs p.0) as (λ o. step xs p.0 ≡ o
    → Found xs (p ∷ ps) (cond (not (is_some o)) (Some p.1) (elim o [ None ↦ None | Some ys ↦ first_at misplaced ys ps ])))
    [ None ↦ λ e. ([], p.0, ps, refl, xs, refl, e) | Some ys ↦ λ e. grow xs ys p ps (first_at misplaced ys ps) e (found ps ys) ]) refl

told_first : (k : FileKind) (ps : List (Lexeme × ℕ)) (r : Option ℕ) → Found (form k ∷ []) ps r → FirstStuck k ps r
told_first k ps (Some c) f = (
  f.0,
  f.1,
  f.2,
  f.3,
  goes_on k (plain f.0) f.4 f.5,
  λ b. was_taken k (plain f.0 ++ f.1 ∷ []) b
      (run_append (plain f.0) (f.1 ∷ []) (form k ∷ []) ∙ (ap (λ o. then o (f.1 ∷ [])) f.5 ∙ ap (λ o. then o []) f.6)),
)
told_first k ps None f = goes_on k (plain ps) f.0 f.1

pub first_stuck : (k : FileKind) (ps : List (Lexeme × ℕ)) (r : Option ℕ) → r ≡ first_at misplaced (form k ∷ []) ps → FirstStuck k ps r
first_stuck k ps r e = subst (FirstStuck k ps) (sym e) (told_first k ps (first_at misplaced (form k ∷ []) ps) (found ps (form k ∷ [])))
