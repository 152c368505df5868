-- What it tells of lines and names that a book is accepted.
use Rattle.rules.specs.declared.rule_book.Book.{Book}
use Rattle.forms.specs.Told.{guards_of}
use Rattle.std.proofs.Common.{◌≡◌, ℕ, zero, suc, ◌+◌, ◌<◌, ◌≤◌, min, Bool, true, false, cond, not, ◌&&◌, eqb, ltb, leb, List, [], ◌∷◌, map, length, get_or, drop, is_some, Some, None, codes, Option, sym, refl, ap, ◌∙◌, subst, ⊎_elim, arith}
use Rattle.std.specs.Option.{option_map}
use Rattle.std.specs.List.{AllByRecursion}
use Rattle.std.specs.Str.{bytes_eq}
use Rattle.std.proofs.lemmas.List.Quantifiers.{position-Some}
use Rattle.std.proofs.lemmas.Bool.{and_parts, eqb-true, leb-true, ltb-true, lt-ltb, both_ways, cases_lt, cases_Bool, cond-true, cond-false}
use Rattle.geometry.specs.Limits.{most_lines}
use Rattle.text.specs.Findings.{or_else}
use Rattle.text.specs.declared.placed.Placed.{Placed}
use Rattle.judge.specs.declared.faults.Fault.{Fault}
use Rattle.judge.specs.declared.faults.Fault.TheVariants.{LastLineGuarded, NotFurtherDown}
use Rattle.book.specs.Checks.{every}
use Rattle.forms.specs.Told.{Name, bytes_of}
use Rattle.forms.specs.declared.rule.RuleLine.{RuleLine}
use Rattle.book_check.specs.declared.kind.Kind.{Kind}
use Rattle.book_check.specs.declared.kind.Kind.TheVariants.{Material, Below, Anywhere}
use Rattle.book_check.specs.Faults.{first_named, material_number, meaning, fault_at, meant_fault, used_fault, ends, guard_fault, line_fault, lines_fault, book_fault}
use Rattle.rules.specs.Holds.{complete, fits}
use Rattle.rules.specs.Verdicts.{most_materials}
use Rattle.book_check.specs.Resolved.{accepted, meanings, target_of}

-- neither of two
pub neither : {X : Type 0} (a b : Option X) → or_else a b ≡ None → (a ≡ None) × (b ≡ None)
neither None b e = (refl, e)
neither (Some x) b e = let z : ◌≡◌ {A = ℕ} 0 1 = cc in absurd (omega arith)

-- no line has a fault
pub line_from : (ps : Book) (k : ℕ) (ns : List Name) (rs : List RuleLine) (i : ℕ) (n : Name) (r : RuleLine) → lines_fault ps k ns rs ≡ None → i < length ns → i < length rs
    → line_fault ps (k + i) (get_or ns i n) (drop (suc i) ns) (get_or rs i r) ≡ None
line_from ps k [] rs i n r e h g = absurd (omega arith)
line_from ps k (m ∷ ns) [] i n r e h g = absurd (omega arith)
line_from ps k (m ∷ ns) (q ∷ rs) zero n r e h g =
    let z : k ≡ k + 0 = omega arith in
    subst (λ j. line_fault ps j m ns q ≡ None) z (neither _ _ e).0
line_from ps k (m ∷ ns) (q ∷ rs) (suc i) n r e h g =
    let z : k + 1 + i ≡ k + suc i = omega arith in
    subst (λ j. line_fault ps j (get_or ns i n) (drop (suc i) ns) (get_or rs i r) ≡ None) z (line_from ps (k + 1) ns rs i n r (neither _ _ e).1 (omega arith) (omega arith))

-- what a book must be to be accepted
pub record Accepted (ps : Book) : Type 0 where
  pub paired : length ps.names ≡ length ps.lines
  pub few : length ps.lines ≤ most_lines
  pub kinds : length ps.materials ≤ most_materials
  pub whole : every (complete ps.uses) ps.lines ≡ true
  pub clear : book_fault ps ≡ None

none_from : {X : Type 0} (o : Option X) → not (is_some o) ≡ true → o ≡ None
none_from None e = refl
none_from (Some x) e = let z : ◌≡◌ {A = ℕ} 0 1 = cc in absurd (omega arith)

pub accepted_tells : (ps : Book) → accepted ps ≡ true → Accepted ps
accepted_tells ps e =
    let a = and_parts (fits ps) _ e in
    let b = and_parts (eqb (length ps.names) (length ps.lines)) _ a.0 in
    let c = and_parts (leb (length ps.lines) most_lines) _ b.1 in
    let d = and_parts (leb (length ps.materials) most_materials) _ c.1 in
    record {
      paired = eqb-true _ _ b.0;
      few = leb-true _ _ c.0;
      kinds = leb-true _ _ d.0;
      whole = d.1;
      clear = none_from (book_fault ps) a.1;
    }

pub line_clear : (ps : Book) → Accepted ps → (i : ℕ) (n : Name) (r : RuleLine) → i < length ps.lines → line_fault ps i (get_or ps.names i n) (drop (suc i) ps.names) (get_or ps.lines i r) ≡ None
line_clear ps a i n r h =
    let z : 0 + i ≡ i = omega arith in
    let g : i < length ps.names = omega (arith, a.paired) in
    subst (λ j. line_fault ps j (get_or ps.names i n) (drop (suc i) ps.names) (get_or ps.lines i r) ≡ None) z (line_from ps 0 ps.names ps.lines i n r a.clear g h)

every_tells : {X : Type 0} (p : X → Bool) (xs : List X) (i : ℕ) (d : X) → every p xs ≡ true → i < length xs → p (get_or xs i d) ≡ true
every_tells p [] i d e h = absurd (omega arith)
every_tells p (x ∷ xs) zero d e h = (and_parts (p x) _ e).0
every_tells p (x ∷ xs) (suc i) d e h = every_tells p xs i d (and_parts (p x) _ e).1 (omega arith)

pub line_whole : (ps : Book) → Accepted ps → (i : ℕ) (r : RuleLine) → i < length ps.lines → complete ps.uses (get_or ps.lines i r) ≡ true
line_whole ps a i r h = every_tells (complete ps.uses) ps.lines i r a.whole h

-- what is known of the meaning j of a name in line i
abbrev pub Fine : Book → ℕ → Kind → ℕ → Type 0
Fine ps i Material j = j ≤ length ps.materials
Fine ps i Below j = (i < j) × (j < length ps.names)
Fine ps i Anywhere j = j < length ps.names

pub within : (w : List ℕ) (ns : List Name) (j : ℕ) → first_named w ns ≡ Some j → j < length ns
within w [] j e = let z : ◌≡◌ {A = ℕ} 0 1 = cc in absurd (omega arith)
within w (n ∷ ns) j e = (position-Some (λ m. bytes_eq (bytes_of m) w) (n ∷ ns) j n e).0

mapped_within : (w : List ℕ) (ms : List Name) (o : Option ℕ) (j : ℕ) → first_named w ms ≡ o → option_map (λ i. i + 1) o ≡ Some j → j ≤ length ms
mapped_within w ms None j e f = let z : ◌≡◌ {A = ℕ} 0 1 = cc in absurd (omega arith)
mapped_within w ms (Some i) j e f =
    let z : i + 1 ≡ j = cc in
    let h = within w ms i e in
    omega arith

material_within : (ms : List Name) (w : List ℕ) (j : ℕ) → material_number ms w ≡ Some j → j ≤ length ms
material_within ms w j e =
    ⊎_elim
    (λ t. let f : 0 ≡ j = let z : Some 0 ≡ Some j = sym (cond-true _ (Some 0) (option_map (λ i. i + 1) (first_named w ms)) t) ∙ e in cc in omega arith)
    (λ t. mapped_within w ms (first_named w ms) j refl (sym (cond-false _ (Some 0) (option_map (λ i. i + 1) (first_named w ms)) t) ∙ e))
    (cases_Bool (bytes_eq w (codes "void")))

below_clear : (b : Bool) (p : Placed Fault) → cond b None (Some p) ≡ None → b ≡ true
below_clear true p e = refl
below_clear false p e = let z : ◌≡◌ {A = ℕ} 0 1 = cc in absurd (omega arith)

name_fine : (ps : Book) (i : ℕ) (k : Kind) (n : Name) (j : ℕ) → meant_fault i k n (Some j) ≡ None → meaning ps k (bytes_of n) ≡ Some j → Fine ps i k j
name_fine ps i Material n j e f = material_within ps.materials (bytes_of n) j f
name_fine ps i Below n j e f = (ltb-true i j (below_clear (ltb i j) (fault_at NotFurtherDown n) e), within (bytes_of n) ps.names j f)
name_fine ps i Anywhere n j e f = within (bytes_of n) ps.names j f

-- a name without a fault has a meaning
pub name_meant : (ps : Book) (i : ℕ) (k : Kind) (n : Name) (o : Option ℕ) → meaning ps k (bytes_of n) ≡ o → meant_fault i k n o ≡ None → (j : ℕ) × (o ≡ Some j) × Fine ps i k j
name_meant ps i k n None f e = let z : ◌≡◌ {A = ℕ} 0 1 = cc in absurd (omega arith)
name_meant ps i k n (Some j) f e = (j, refl, name_fine ps i k n j e f)

pub fine_small : (ps : Book) → Accepted ps → (i : ℕ) (k : Kind) (j : ℕ) → Fine ps i k j → j < most_lines
fine_small ps a i Material j h = omega (arith, a.kinds)
fine_small ps a i Below j h = omega (arith, a.few, a.paired)
fine_small ps a i Anywhere j h = omega (arith, a.few, a.paired)

-- all names have meanings that a body can hold
pub used_meant : (ps : Book) → Accepted ps → (i : ℕ) (k : Kind) (ns : List Name) → used_fault ps i k ns ≡ None → map Some (map target_of (meanings ps k ns)) ≡ meanings ps k ns
used_meant ps a i k [] e = refl
used_meant ps a i k (n ∷ ns) e =
    let m = name_meant ps i k n (meaning ps k (bytes_of n)) refl (neither _ _ e).0 in
    let j = m.0 in
    let s = fine_small ps a i k j m.2 in
    let z : min j 255 ≡ j = omega arith in
    let y : Some (target_of (meaning ps k (bytes_of n))) ≡ meaning ps k (bytes_of n) = ap (λ o. Some (target_of o)) m.1 ∙ ap Some z ∙ sym m.1 in
    ap (λ o. o ∷ map Some (map target_of (meanings ps k ns))) y ∙ ap (λ os. meaning ps k (bytes_of n) ∷ os) (used_meant ps a i k ns (neither _ _ e).1)

-- numbers that stand for names without a fault
pub targets_fine : (ps : Book) (i : ℕ) (k : Kind) (ns : List Name) (ts : List ℕ) → used_fault ps i k ns ≡ None → meanings ps k ns ≡ map Some ts → AllByRecursion (Fine ps i k) ts
targets_fine ps i k ns [] e f = tt
targets_fine ps i k [] (t ∷ ts) e f = let z : ◌≡◌ {A = ℕ} 0 1 = cc in absurd (omega arith)
targets_fine ps i k (n ∷ ns) (t ∷ ts) e f =
    let g : meaning ps k (bytes_of n) ≡ Some t = cc in
    let h : meanings ps k ns ≡ map Some ts = cc in
    (name_fine ps i k n t (ap (meant_fault i k n) (sym g) ∙ (neither _ _ e).0) g, targets_fine ps i k ns ts (neither _ _ e).1 h)

second_false : (a b : Bool) (p : Placed Fault) → cond (a && b) (Some p) None ≡ None → a ≡ true → b ≡ false
second_false true true p e f = let z : ◌≡◌ {A = ℕ} 0 1 = cc in absurd (omega arith)
second_false true false p e f = refl
second_false false b p e f = let z : ◌≡◌ {A = ℕ} 0 1 = cc in absurd (omega arith)

-- after a line with a guard its rule goes on
pub goes_on : (n : Name) (ns : List Name) (r : RuleLine) → guard_fault n ns r ≡ None → 0 < length (guards_of r) → ends (bytes_of n) ns ≡ false
goes_on n ns r e h = second_false (ltb 0 (length (guards_of r))) (ends (bytes_of n) ns) (fault_at LastLineGuarded n) e (lt-ltb 0 (length (guards_of r)) h)

-- the last line of a rule has no guard
pub free_at_end : (n : Name) (ns : List Name) (r : RuleLine) → guard_fault n ns r ≡ None → ends (bytes_of n) ns ≡ true → length (guards_of r) ≡ 0
free_at_end n ns r e f = ⊎_elim (λ h. absurd (both_ways _ (goes_on n ns r e h) f)) (λ h. omega arith) (cases_lt 0 (length (guards_of r)))
