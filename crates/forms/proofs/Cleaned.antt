-- What is spelled with good numbers is clean.
use Rattle.std.proofs.Common.{◌≡◌, ℕ, ◌+◌, ◌-◌, ◌<◌, ◌≤◌, Bool, true, false, cond, not, ◌&&◌, ◌||◌, eqb, List, [], ◌∷◌, length, Some, None, codes, Option, refl, ap, ◌∙◌, arith}
use Rattle.std.proofs.lemmas.Bool.{and_parts, ne_eqb, lt-ltb}
use Rattle.geometry.specs.Limits.{site, least}
use Rattle.text.specs.Tokens.{Lexeme, opening, closing, number, word}
use Rattle.grammar.specs.Forms.{Axis, x_axis, y_axis, z_axis, Guard, guard, Part, fix, float, Body, make, refer, tile, split, rule, axis_text, spell_guards, spell_part, spell_parts, spell_body, guard_limit}
use Rattle.grammar.specs.Orders.{ordered_guards, ordered_part, ordered_parts, ordered_body, good_numbers}
use Rattle.grammar.specs.Wants.{Want, name, num, axis, range, shut, items, parts, more, size, weight_limit, low_of, onto, inside}
use Rattle.grammar.specs.declared.state.Naming.{Naming}
use Rattle.grammar.specs.declared.state.Naming.TheVariants.{Own, Rule}
use Rattle.forms.specs.Clean.{clean}
use Rattle.forms.specs.Reads.{part_count}

-- any name will do
abbrev pub any : Naming → List ℕ → Bool
any n w = true

pub number_clean : (r : ℕ × ℕ) (k : ℕ) (w : List ℕ) (us : List Lexeme) (xs : List Want) → inside r w ≡ true
    → clean k (num r.0 r.1 ∷ xs) (number w ∷ us) ≡ clean k xs us
number_clean r k w us xs e = ap (λ b. cond (not b || false) false (clean k xs us)) e

pub axis_clean : (a : Axis) (k : ℕ) (us : List Lexeme) (xs : List Want) → clean k (axis ∷ xs) (word (axis_text a) ∷ us) ≡ clean k xs us
axis_clean x_axis k us xs = refl
axis_clean y_axis k us xs = refl
axis_clean z_axis k us xs = refl

-- a number, a name and a bracket in a part
amount_clean : (r : ℕ × ℕ) (k : ℕ) (v w : List ℕ) (us : List Lexeme) (xs : List Want) → 0 < k → (inside r v && true) ≡ true
    → cond (eqb k 0) false (clean (k - 1) (num r.0 r.1 ∷ name Rule ∷ shut ∷ xs) (number v ∷ word w ∷ closing ∷ us)) ≡ clean (k - 1) xs us
amount_clean r k v w us xs h g =
    ap (λ b. cond b false (clean (k - 1) (num r.0 r.1 ∷ name Rule ∷ shut ∷ xs) (number v ∷ word w ∷ closing ∷ us))) (ne_eqb k 0 (λ q. omega arith))
    ∙ number_clean r (k - 1) v (word w ∷ closing ∷ us) (name Rule ∷ shut ∷ xs) (and_parts (inside r v) true g).0

pub part_clean : (p : Part) (k : ℕ) (us : List Lexeme) (xs : List Want) → 0 < k → ordered_part inside any p ≡ true
    → clean k (more ∷ xs) (spell_part p us) ≡ clean (k - 1) (more ∷ xs) us
part_clean (fix n w) k us xs h g = amount_clean (least, site) k n w us (more ∷ xs) h g
part_clean (float n w) k us xs h g = amount_clean (1, weight_limit) k n w us (more ∷ xs) h g

-- the first part
first_clean : (p : Part) (k : ℕ) (us : List Lexeme) (xs : List Want) → clean k (parts ∷ xs) (spell_part p us) ≡ clean k (more ∷ xs) (spell_part p us)
first_clean (fix n w) k us xs = refl
first_clean (float n w) k us xs = refl

parts_clean : (ps : List Part) (k : ℕ) (us : List Lexeme) (xs : List Want) → length ps ≤ k → ordered_parts inside any ps ≡ true
    → clean k (more ∷ xs) (spell_parts ps (closing ∷ us)) ≡ clean (k - length ps) xs us
parts_clean [] k us xs h g = let e : k ≡ k - 0 = omega arith in ap (λ m. clean m xs us) e
parts_clean (p ∷ ps) k us xs h g =
    let both = and_parts (ordered_part inside any p) (ordered_parts inside any ps) g in
    let e : k - 1 - length ps ≡ k - length (p ∷ ps) = omega arith in
    part_clean p k (spell_parts ps (closing ∷ us)) xs (omega arith) both.0
    ∙ (parts_clean ps (k - 1) us xs (omega arith) both.1 ∙ ap (λ m. clean m xs us) e)

body_clean : (b : Body) (n k : ℕ) (us : List Lexeme) (xs : List Want) → part_count b ≤ k → ordered_body inside any b ≡ true
    → clean k (items n ∷ xs) (spell_body b us) ≡ clean (k - part_count b) xs us
body_clean (make w) n k us xs h g = let e : k ≡ k - 0 = omega arith in ap (λ m. clean m xs us) e
body_clean (refer w) n k us xs h g = let e : k ≡ k - 0 = omega arith in ap (λ m. clean m xs us) e
body_clean (tile a v w) n k us xs h g =
    let e : k ≡ k - 0 = omega arith in
    axis_clean a k (number v ∷ word w ∷ closing ∷ us) (size ∷ name Rule ∷ shut ∷ xs)
    ∙ (number_clean (least, site) k v (word w ∷ closing ∷ us) (name Rule ∷ shut ∷ xs) (and_parts (inside (least, site) v) true g).0
    ∙ ap (λ m. clean m xs us) e)
body_clean (split a p ps) n k us xs h g =
    let both = and_parts (ordered_part inside any p) (ordered_parts inside any ps) g in
    let e : k - 1 - length ps ≡ k - (length ps + 1) = omega arith in
    axis_clean a k (spell_part p (spell_parts ps (closing ∷ us))) (parts ∷ xs)
    ∙ (first_clean p k (spell_parts ps (closing ∷ us)) xs
    ∙ (part_clean p k (spell_parts ps (closing ∷ us)) xs (omega arith) both.0
    ∙ (parts_clean ps (k - 1) us xs (omega arith) both.1 ∙ ap (λ m. clean m xs us) e)))

-- the word of a guard, where one may come

abbrev pub guard_wants : ℕ → List Want
guard_wants n = axis ∷ range ∷ shut ∷ items (n - 1) ∷ []

-- whether what comes after a word that wants o before xs is clean
abbrev clean_by : ℕ → Option (List Want) → List Want → List Lexeme → Bool
clean_by k o xs us = elim (onto o xs) [ None ↦ false | Some ys ↦ clean k ys us ]

pub when_clean : (n k : ℕ) (us : List Lexeme) (xs : List Want) → 0 < n
    → clean k (items n ∷ xs) (opening ∷ word (codes "when") ∷ us) ≡ clean k (axis ∷ range ∷ shut ∷ items (n - 1) ∷ xs) us
when_clean n k us xs h = ap (λ t. clean_by k (cond t (Some (guard_wants n)) None) xs us) (lt-ltb 0 n h)

pub guard_clean : (a : Axis) (l h : List ℕ) (k : ℕ) (us : List Lexeme) (xs : List Want) → inside (1, site) l ≡ true → inside (low_of l, site) h ≡ true
    → clean k (axis ∷ range ∷ shut ∷ xs) (word (axis_text a) ∷ number l ∷ number h ∷ closing ∷ us) ≡ clean k xs us
guard_clean a l h k us xs e f =
    axis_clean a k (number l ∷ number h ∷ closing ∷ us) (range ∷ shut ∷ xs)
    ∙ (ap (λ b. cond (not b || false) false (clean k (num (low_of l) site ∷ shut ∷ xs) (number h ∷ closing ∷ us))) e
    ∙ number_clean (low_of l, site) k h (closing ∷ us) (shut ∷ xs) f)

items_clean : (gs : List Guard) (b : Body) (n k : ℕ) (us : List Lexeme) (xs : List Want) → length gs ≤ n → part_count b ≤ k
    → ordered_guards inside any gs ≡ true → ordered_body inside any b ≡ true
    → clean k (items n ∷ xs) (spell_guards gs (spell_body b us)) ≡ clean (k - part_count b) xs us
items_clean [] b n k us xs l h g d = body_clean b n k us xs h d
items_clean (guard a v w ∷ gs) b n k us xs l h g d =
    let low = and_parts (inside (1, site) v) (inside (low_of v, site) w && ordered_guards inside any gs) g in
    let high = and_parts (inside (low_of v, site) w) (ordered_guards inside any gs) low.1 in
    when_clean n k (word (axis_text a) ∷ number v ∷ number w ∷ closing ∷ spell_guards gs (spell_body b us)) xs (omega arith)
    ∙ (guard_clean a v w k (spell_guards gs (spell_body b us)) (items (n - 1) ∷ xs) low.0 high.0
    ∙ items_clean gs b (n - 1) k us xs (omega arith) h high.1 d)

pub rule_clean : (w : List ℕ) (gs : List Guard) (b : Body) (k : ℕ) → length gs ≤ guard_limit → part_count b ≤ k → good_numbers (rule w gs b) ≡ true
    → clean k (name Own ∷ items guard_limit ∷ shut ∷ []) (word w ∷ spell_guards gs (spell_body b (closing ∷ []))) ≡ true
rule_clean w gs b k l h g =
    let both = and_parts (ordered_guards inside any gs) (ordered_body inside any b) g in
    items_clean gs b guard_limit k (closing ∷ []) (shut ∷ []) l h both.0 both.1
