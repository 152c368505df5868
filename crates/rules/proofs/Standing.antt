-- What stands in a line that spells a form.
use Rattle.std.proofs.Common.{◌≡◌, ℕ, suc, ◌+◌, ◌-◌, ◌≤◌, Bool, true, false, cond, ◌&&◌, ltb, List, [], ◌∷◌, ◌++◌, map, length, Some, None, refl, ap, ◌∙◌, arith}
use Rattle.std.proofs.lemmas.List.{append-nil}
use Rattle.std.proofs.lemmas.Bool.{lt-ltb}
use Rattle.text.specs.Tokens.{Lexeme, opening, closing, number, word, tokens_of, spelled}
use Rattle.grammar.specs.Forms.{Axis, x_axis, y_axis, z_axis, Guard, guard, Part, fix, float, Body, make, refer, tile, split, Form, material, rule, lot, axis_text, spell_guards, spell_part, spell_parts, spell_body, spell, Fits, plain}
use Rattle.grammar.specs.Wants.{Want, form, name, range, axis, shut, items, parts, more, size, onto, step}
use Rattle.grammar.specs.declared.state.FileKind.TheVariants.{Rules}
use Rattle.grammar.specs.declared.state.Naming.TheVariants.{Rule}
use Rattle.forms.specs.Met.{met}
use Rattle.forms.specs.Reads.{part_count}
use Rattle.judge.specs.Files.{some}
use Rattle.rules.specs.Before.{Before, looks, standing, lows_in, parts_in, declared_in, own_in, texts, after, added}

-- the same of lexemes without their columns
abbrev picked : (List Want → Lexeme → Bool) → List Want → List Lexeme → List Lexeme
picked test xs [] = []
picked test xs (t ∷ ts) =
    cond (test xs t) (t ∷ elim (step xs t) [ None ↦ [] | Some ys ↦ picked test ys ts ])
    (elim (step xs t) [ None ↦ [] | Some ys ↦ picked test ys ts ])

plain_met : (test : List Want → Lexeme → Bool) (ps : List (Lexeme × ℕ)) (xs : List Want) → plain (met test xs ps) ≡ picked test xs (plain ps)
plain_met test [] xs = refl
plain_met test (p ∷ ps) xs =
    let rest : plain (elim (step xs p.0) [ None ↦ [] | Some ys ↦ met test ys ps ]) ≡ elim (step xs p.0) [ None ↦ [] | Some ys ↦ picked test ys (plain ps) ]
    = elim (step xs p.0) as (λ o. plain (elim o [ None ↦ [] | Some ys ↦ met test ys ps ]) ≡ elim o [ None ↦ [] | Some ys ↦ picked test ys (plain ps) ])
    [ None ↦ refl | Some ys ↦ plain_met test ps ys ] in
    elim (test xs p.0) as (λ b. plain (cond b (p ∷ elim (step xs p.0) [ None ↦ [] | Some ys ↦ met test ys ps ]) (elim (step xs p.0) [ None ↦ [] | Some ys ↦ met test ys ps ]))
    ≡ cond b (p.0 ∷ elim (step xs p.0) [ None ↦ [] | Some ys ↦ picked test ys (plain ps) ]) (elim (step xs p.0) [ None ↦ [] | Some ys ↦ picked test ys (plain ps) ]))
    [ true ↦ ap (λ us. p.0 ∷ us) rest | false ↦ rest ]

-- a test that looks for LOWs, for parts and for names of a line itself
module _ (g p d o : Bool) where
  abbrev look : List Want → Lexeme → Bool
  look = looks g p d o

  abbrev seen : List Want → List Lexeme → ℕ
  seen xs ts = length (picked look xs ts)

  one : (b : Bool) (t : Lexeme) (us : List Lexeme) → length (cond b (t ∷ us) us) ≡ cond b 1 0 + length us
  one true t us = omega arith
  one false t us = omega arith

  none : (b : Bool) (s : ℕ) → s ≡ cond b 0 0 + s
  none true s = omega arith
  none false s = omega arith

  opened : (b : Bool) → (b && true) ≡ b
  opened true = refl
  opened false = refl

  seen_axis : (a : Axis) (xs : List Want) (us : List Lexeme) → seen (axis ∷ xs) (word (axis_text a) ∷ us) ≡ seen xs us
  seen_axis x_axis xs us = refl
  seen_axis y_axis xs us = refl
  seen_axis z_axis xs us = refl

  -- a part where more may come
  seen_part : (q : Part) (xs : List Want) (us : List Lexeme) → seen (more ∷ xs) (spell_part q us) ≡ cond p 1 0 + seen (more ∷ xs) us
  seen_part (fix n w) xs us = one (p && true) opening (picked look (more ∷ xs) us) ∙ ap (λ b. cond b 1 0 + seen (more ∷ xs) us) (opened p)
  seen_part (float n w) xs us = one (p && true) opening (picked look (more ∷ xs) us) ∙ ap (λ b. cond b 1 0 + seen (more ∷ xs) us) (opened p)

  seen_first : (q : Part) (xs : List Want) (us : List Lexeme) → seen (parts ∷ xs) (spell_part q us) ≡ cond p 1 0 + seen (more ∷ xs) us
  seen_first (fix n w) xs us = one (p && true) opening (picked look (more ∷ xs) us) ∙ ap (λ b. cond b 1 0 + seen (more ∷ xs) us) (opened p)
  seen_first (float n w) xs us = one (p && true) opening (picked look (more ∷ xs) us) ∙ ap (λ b. cond b 1 0 + seen (more ∷ xs) us) (opened p)

  bump : (b : Bool) (n s : ℕ) → cond b 1 0 + (cond b n 0 + s) ≡ cond b (suc n) 0 + s
  bump true n s = omega arith
  bump false n s = omega arith

  -- the bracket after the last part
  seen_end : (b : Bool) (us : List Lexeme) → length (cond (b && false) (closing ∷ us) us) ≡ cond b 0 0 + length us
  seen_end true us = omega arith
  seen_end false us = omega arith

  seen_more : (qs : List Part) (xs : List Want) (us : List Lexeme) → seen (more ∷ xs) (spell_parts qs (closing ∷ us)) ≡ cond p (length qs) 0 + seen xs us
  seen_more [] xs us = seen_end p (picked look xs us)
  seen_more (q ∷ qs) xs us =
      seen_part q xs (spell_parts qs (closing ∷ us)) ∙ (ap (λ n. cond p 1 0 + n) (seen_more qs xs us) ∙ bump p (length qs) (seen xs us))

  seen_body : (k : ℕ) (b : Body) (xs : List Want) (us : List Lexeme) → seen (items k ∷ xs) (spell_body b us) ≡ cond p (part_count b) 0 + seen xs us
  seen_body k (make w) xs us = none p (seen xs us)
  seen_body k (refer w) xs us = none p (seen xs us)
  seen_body k (tile a n w) xs us = seen_axis a (size ∷ name Rule ∷ shut ∷ xs) (number n ∷ word w ∷ closing ∷ us) ∙ none p (seen xs us)
  seen_body k (split a q qs) xs us =
      seen_axis a (parts ∷ xs) (spell_part q (spell_parts qs (closing ∷ us)))
      ∙ (seen_first q xs (spell_parts qs (closing ∷ us))
      ∙ (ap (λ n. cond p 1 0 + n) (seen_more qs xs us)
      ∙ (bump p (length qs) (seen xs us) ∙ ap (λ n. cond p n 0 + seen xs us) (omega arith))))

  seen_guard : (k : ℕ) (a : Axis) (l h : List ℕ) (xs : List Want) (us : List Lexeme) → ltb 0 k ≡ true
      → seen (items k ∷ xs) (spell_guards (guard a l h ∷ []) us) ≡ cond g 1 0 + seen (items (k - 1) ∷ xs) us
  seen_guard k a l h xs us e =
      ap (λ c. length (elim (onto (cond c (Some (axis ∷ range ∷ shut ∷ items (k - 1) ∷ [])) None) xs)
      as (λ _. List Lexeme) [ None ↦ [] | Some ys ↦ picked look ys (word (axis_text a) ∷ number l ∷ number h ∷ closing ∷ us) ])) e
      ∙ (seen_axis a (range ∷ shut ∷ items (k - 1) ∷ xs) (number l ∷ number h ∷ closing ∷ us)
      ∙ one g (number l) (picked look (items (k - 1) ∷ xs) us))

  regroup : (a b : Bool) (m n s : ℕ) → cond a 1 0 + ((cond a m 0 + cond b n 0) + s) ≡ (cond a (suc m) 0 + cond b n 0) + s
  regroup true b m n s = omega arith
  regroup false b m n s = omega arith

  seen_items : (k : ℕ) (gs : List Guard) (b : Body) (xs : List Want) (us : List Lexeme) → length gs ≤ k
      → seen (items k ∷ xs) (spell_guards gs (spell_body b us)) ≡ (cond g (length gs) 0 + cond p (part_count b) 0) + seen xs us
  seen_items k [] b xs us h = seen_body k b xs us ∙ ap (λ n. n + seen xs us) (none g (cond p (part_count b) 0))
  seen_items k (guard a l u ∷ gs) b xs us h =
      seen_guard k a l u xs (spell_guards gs (spell_body b us)) (lt-ltb 0 k (omega arith))
      ∙ (ap (λ n. cond g 1 0 + n) (seen_items (k - 1) gs b xs us (omega arith)) ∙ regroup g p (length gs) (part_count b) (seen xs us))

  -- what a rule line has after its name
  seen_rule : (gs : List Guard) (b : Body) → length gs ≤ 3
      → seen (items 3 ∷ shut ∷ []) (spell_guards gs (spell_body b (closing ∷ []))) ≡ cond g (length gs) 0 + cond p (part_count b) 0
  seen_rule gs b few = seen_items 3 gs b (shut ∷ []) (closing ∷ []) few ∙ omega arith

no_length : {X : Type 0} (xs : List X) → length xs ≡ 0 → xs ≡ []
no_length [] e = refl
no_length (x ∷ xs) e = absurd (omega arith)

same_some : {X Y : Type 0} (xs : List X) (ys : List Y) → length xs ≡ length ys → some xs ≡ some ys
same_some [] [] e = refl
same_some [] (y ∷ ys) e = absurd (omega arith)
same_some (x ∷ xs) [] e = absurd (omega arith)
same_some (x ∷ xs) (y ∷ ys) e = refl

pub length_plain : (ps : List (Lexeme × ℕ)) → length ps ≡ length (plain ps)
length_plain [] = refl
length_plain (p ∷ ps) = ap suc (length_plain ps)

texts_plain : (ps : List (Lexeme × ℕ)) → texts ps ≡ map spelled (plain ps)
texts_plain [] = refl
texts_plain (p ∷ ps) = ap (λ us. spelled p.0 ∷ us) (texts_plain ps)

-- a line that spells a form
module _ (l : List ℕ) (f : Form) (e : plain (tokens_of l) ≡ spell f) where
  stands : (T : List Want → Lexeme → Bool) → plain (standing T l) ≡ picked T (form Rules ∷ []) (spell f)
  stands T = plain_met T (tokens_of l) (form Rules ∷ []) ∙ ap (picked T (form Rules ∷ [])) e

  written : (T : List Want → Lexeme → Bool) → texts (standing T l) ≡ map spelled (picked T (form Rules ∷ []) (spell f))
  written T = texts_plain (standing T l) ∙ ap (map spelled) (stands T)

  counted : (T : List Want → Lexeme → Bool) → length (standing T l) ≡ length (picked T (form Rules ∷ []) (spell f))
  counted T = length_plain (standing T l) ∙ ap length (stands T)

  exists : (T : List Want → Lexeme → Bool) → some (standing T l) ≡ some (picked T (form Rules ∷ []) (spell f))
  exists T = same_some (standing T l) (picked T (form Rules ∷ []) (spell f)) (counted T)

-- a material line
module _ (l w : List ℕ) (e : plain (tokens_of l) ≡ spell (material w)) where
  pub material_declared : texts (declared_in l) ≡ w ∷ []
  material_declared = written l (material w) e _

  pub material_not_rule : texts (own_in l) ≡ []
  material_not_rule = written l (material w) e _

  pub material_some : some (declared_in l) ≡ true
  material_some = exists l (material w) e _

  pub material_none : some (own_in l) ≡ false
  material_none = exists l (material w) e _

  pub material_parts : length (parts_in l) ≡ 0
  material_parts = counted l (material w) e _

-- a rule line
module _ (l w : List ℕ) (gs : List Guard) (b : Body) (few : length gs ≤ 3) (e : plain (tokens_of l) ≡ spell (rule w gs b)) where
  pub rule_own : texts (own_in l) ≡ w ∷ []
  rule_own =
      written l (rule w gs b) e _
      ∙ ap (λ us. w ∷ map spelled us) (no_length _ (seen_rule false false false true gs b few))

  pub rule_not_declared : texts (declared_in l) ≡ []
  rule_not_declared = written l (rule w gs b) e _ ∙ ap (map spelled) (no_length _ (seen_rule false false true false gs b few))

  pub rule_some : some (own_in l) ≡ true
  rule_some = exists l (rule w gs b) e _

  pub rule_none : some (declared_in l) ≡ false
  rule_none = exists l (rule w gs b) e _ ∙ ap some (no_length _ (seen_rule false false true false gs b few))

  pub rule_guarded : some (lows_in l) ≡ some gs
  rule_guarded = exists l (rule w gs b) e _ ∙ same_some _ gs (seen_rule true false false false gs b few ∙ omega arith)

  pub rule_parts : length (parts_in l) ≡ part_count b
  rule_parts = counted l (rule w gs b) e _ ∙ (seen_rule false true false false gs b few ∙ omega arith)

same_before : (b : Before) (ms ns : List (List ℕ)) (t u : Bool) (n : ℕ) (ms' ns' : List (List ℕ)) (v : Bool) (n' : ℕ)
    → ms ≡ ms' → ns ≡ ns' → cond t u b.guarded ≡ v → n ≡ n'
    → ◌≡◌ {A = Before} (record { materials = b.materials ++ ms; names = b.names ++ ns; guarded = cond t u b.guarded; parts = b.parts + n })
    (record { materials = b.materials ++ ms'; names = b.names ++ ns'; guarded = v; parts = b.parts + n' })
same_before b ms ns t u n ms' ns' v n' p q r s = cc

pub after_added : (b : Before) (l : List ℕ) (f : Form) → Fits Rules f → plain (tokens_of l) ≡ spell f → after b l ≡ added b f
after_added b l (material w) h e =
    let k : b.parts + 0 ≡ b.parts = omega arith in
    same_before b _ _ (some (own_in l)) (some (lows_in l)) _ (w ∷ []) [] b.guarded 0 (material_declared l w e) (material_not_rule l w e)
    (ap (λ t. cond t (some (lows_in l)) b.guarded) (material_none l w e)) (material_parts l w e)
    ∙ simp append-nil (ap (λ n. record { materials = b.materials ++ w ∷ []; names = b.names; guarded = b.guarded; parts = n }) k)
after_added b l (rule w gs body) h e =
    same_before b _ _ (some (own_in l)) (some (lows_in l)) _ [] (w ∷ []) (some gs) (part_count body) (rule_not_declared l w gs body h e) (rule_own l w gs body h e)
    (ap (λ t. cond t (some (lows_in l)) b.guarded) (rule_some l w gs body h e) ∙ rule_guarded l w gs body h e) (rule_parts l w gs body h e)
    ∙ simp append-nil
after_added b l (lot px py pz sx sy sz w) h e = absurd h

-- a line without a token leaves what was left
pub after_blank : (b : Before) (l : List ℕ) → tokens_of l ≡ [] → after b l ≡ b
after_blank b l e =
    let z : (T : List Want → Lexeme → Bool) → standing T l ≡ [] = λ T. ap (met T (form Rules ∷ [])) e in
    let k : b.parts + 0 ≡ b.parts = omega arith in
    same_before b _ _ (some (own_in l)) (some (lows_in l)) _ [] [] b.guarded 0 (ap texts (z _)) (ap texts (z _))
    (ap (λ ps. cond (some ps) (some (lows_in l)) b.guarded) (z _)) (ap length (z _))
    ∙ simp append-nil (ap (λ n. record { materials = b.materials; names = b.names; guarded = b.guarded; parts = n }) k)
