-- A rule file has no fault just if it is in order.
use Rattle.std.proofs.Common.{◌≡◌, ℕ, ◌-◌, ◌<◌, ◌≤◌, Bool, true, false, cond, not, ◌&&◌, ◌||◌, ltb, leb, List, [], ◌∷◌, length, is_some, Some, None, Option, sym, refl, ap, ◌∙◌, arith}
use Rattle.std.proofs.lemmas.Bool.{both_ways, cond-true, ltb-true, lt-ltb, leb-false, lt-leb, or_parts, ltb-false, le-ltb, cond-false}
use Rattle.geometry.specs.Limits.{most_lines}
use Rattle.text.proofs.Blank.{blank_decides}
use Rattle.text.specs.Lines.{is_blank, file_limit, lines_of}
use Rattle.text.specs.Tokens.{Lexeme, tokens_of}
use Rattle.grammar.proofs.Accepts.{never}
use Rattle.grammar.proofs.Ordered.{tells}
use Rattle.grammar.specs.Forms.{Form, material, rule, lot, spell, plain, Fits}
use Rattle.grammar.specs.Wants.{form, first_at}
use Rattle.grammar.specs.declared.state.FileKind.TheVariants.{Rules}
use Rattle.grammar.specs.declared.state.Naming.{Naming}
use Rattle.judge.proofs.Filed.{Judges, first_none, both_none, found_none, whole_none, in_order, no_verdict}
use Rattle.judge.specs.Files.{Spells, column_of, some}
use Rattle.judge.specs.Judged.{found, judged}
use Rattle.judge.specs.declared.faults.Fault.TheVariants.{FileTooLong, BadName, RuleNameUsed, TooMany}
use Rattle.forms.specs.Met.{met}
use Rattle.rules.proofs.Standing.{length_plain, material_some, material_none, material_parts, rule_some, rule_none, rule_parts, after_added, after_blank}
use Rattle.rules.specs.Before.{Before, nothing, looks, parts_in, declared_in, own_in, after, added}
use Rattle.rules.specs.Verdicts.{fresh, may_go_on, redeclared, reused, part_room, most_materials, too_many, line_fault, verdict, Few, Good, RulesInOrder}

-- the k-th is absent just if there are at most k
column_none : (ps : List (Lexeme × ℕ)) (k : ℕ) → column_of k ps ≡ None → length ps ≤ k
column_none [] k e = omega arith
column_none (p ∷ ps) k e =
    (elim (ltb 0 k) as (λ b. ltb 0 k ≡ b → cond b (column_of (k - 1) ps) (Some p.1) ≡ None → length (p ∷ ps) ≤ k)
    [ true ↦ λ q e. omega (arith, column_none ps (k - 1) e, ltb-true 0 k q) | false ↦ λ q e. absurd (never _ (sym e)) ]) refl e

none_column : (ps : List (Lexeme × ℕ)) (k : ℕ) → length ps ≤ k → column_of k ps ≡ None
none_column [] k h = refl
none_column (p ∷ ps) k h = cond-true _ _ _ (lt-ltb 0 k (omega arith)) ∙ none_column ps (k - 1) (omega arith)

spelled_some : (f : Form) → 0 < length (spell f)
spelled_some (material w) = omega arith
spelled_some (rule w gs b) = omega arith
spelled_some (lot px py pz sx sy sz w) = omega arith

-- a line that spells a form has a first token
first_token : (l : List ℕ) (f : Form) → plain (tokens_of l) ≡ spell f → column_of 0 (tokens_of l) ≡ None → ⊥
first_token l f s e = omega (arith, column_none (tokens_of l) 0 e, length_plain (tokens_of l), ap length s, spelled_some f)

-- a test on names finds nothing just if the form is in order
order_from : (o : Option ℕ) (t : Bool) → is_some o ≡ not t → o ≡ None → t ≡ true
order_from o true q e = refl
order_from o false q e = absurd (both_ways (is_some o) (ap is_some e) q)

none_from : (o : Option ℕ) (t : Bool) → is_some o ≡ not t → t ≡ true → o ≡ None
none_from None t q e = refl
none_from (Some c) true q e = absurd (both_ways true q refl)
none_from (Some c) false q e = absurd (both_ways false refl e)

pick_none : (a : Bool) (x y : Option ℕ) → cond a x y ≡ None → (x ≡ None → ⊥) → (a ≡ false) × (y ≡ None)
pick_none true x y e h = absurd (h e)
pick_none false x y e h = (refl, e)

-- a form too many, by what the line is
module _ (b : Before) (l : List ℕ) where
  abbrev too_many_if : Bool → Bool → Option ℕ
  too_many_if d o =
      cond ((d && leb most_materials (length b.materials)) || (o && leb most_lines (length b.names))) (column_of 0 (tokens_of l)) (column_of (part_room b) (parts_in l))

  too_many_is : (d o : Bool) → some (declared_in l) ≡ d → some (own_in l) ≡ o → too_many b l ≡ too_many_if d o
  too_many_is d o p q = ap (λ t. too_many_if t (some (own_in l))) p ∙ ap (too_many_if d) q

  pub few : (f : Form) → Fits Rules f → plain (tokens_of l) ≡ spell f → too_many b l ≡ None → Few b f
  few (material w) h s e =
      let q : (_ ≡ false) × (_ ≡ None) = pick_none _ _ _ (sym (too_many_is true false (material_some l w s) (material_none l w s)) ∙ e) (first_token l (material w) s) in
      omega (arith, leb-false most_materials (length b.materials) (or_parts _ false q.0).0)
  few (rule w gs body) h s e =
      let q : (_ ≡ false) × (_ ≡ None) = pick_none _ _ _ (sym (too_many_is false true (rule_none l w gs body h s) (rule_some l w gs body h s)) ∙ e) (first_token l (rule w gs body) s) in (
        omega (arith, leb-false most_lines (length b.names) q.0),
        omega (arith, column_none (parts_in l) (part_room b) q.1, rule_parts l w gs body h s),
      )
  few (lot px py pz sx sy sz w) h s e = tt

  few_none : (f : Form) → Spells Rules l f → Few b f → too_many b l ≡ None
  few_none (material w) s h =
      too_many_is true false (material_some l w s.spelled) (material_none l w s.spelled)
      ∙ (ap (λ t. cond (t || false) (column_of 0 (tokens_of l)) (column_of (part_room b) (parts_in l))) (lt-leb most_materials (length b.materials) (omega arith))
      ∙ none_column (parts_in l) (part_room b) (omega (arith, material_parts l w s.spelled)))
  few_none (rule w gs body) s h =
      too_many_is false true (rule_none l w gs body s.fits s.spelled) (rule_some l w gs body s.fits s.spelled)
      ∙ (ap (λ t. cond t (column_of 0 (tokens_of l)) (column_of (part_room b) (parts_in l))) (lt-leb most_lines (length b.names) (omega (arith, h.0)))
      ∙ none_column (parts_in l) (part_room b) (omega (arith, h.1, rule_parts l w gs body s.fits s.spelled)))
  few_none (lot px py pz sx sy sz w) s h = absurd s.fits

  -- a line without a token has none too many
  blank_few : tokens_of l ≡ [] → too_many b l ≡ None
  blank_few e =
      too_many_is false false (ap (λ ts. some (met (looks false false true false) (form Rules ∷ []) ts)) e)
      (ap (λ ts. some (met (looks false false false true) (form Rules ∷ []) ts)) e)
      ∙ ap (λ ts. column_of (part_room b) (met (looks false true false false) (form Rules ∷ []) ts)) e

abbrev m_fresh : Before → Naming → List ℕ → Bool
m_fresh b = fresh b.materials

abbrev m_goes : Before → Naming → List ℕ → Bool
m_goes b = may_go_on b.names b.guarded

-- the three findings after those of the line by itself
pub record NothingMore (b : Before) (l : List ℕ) : Type 0 where
  pub declared : first_at (redeclared b.materials) (form Rules ∷ []) (tokens_of l) ≡ None
  pub used : first_at (reused b.names b.guarded) (form Rules ∷ []) (tokens_of l) ≡ None
  pub many : too_many b l ≡ None

pub parts_of_lem : (b : Before) (n : ℕ) (l : List ℕ) → line_fault b n l ≡ None → (judged Rules n l ≡ None) × NothingMore b l
parts_of_lem b n l e =
    let h = first_none _ _ e in
    let i = first_none _ _ h.1 in
    let j = first_none _ _ i.1 in
    (h.0, record { declared = found_none BadName n _ i.0; used = found_none RuleNameUsed n _ j.0; many = found_none TooMany n _ j.1 })

from_parts : (b : Before) (n : ℕ) (l : List ℕ) → judged Rules n l ≡ None → NothingMore b l → line_fault b n l ≡ None
from_parts b n l e h =
    both_none _ _ e (both_none _ _ (ap (found BadName n) h.declared) (both_none _ _ (ap (found RuleNameUsed n) h.used) (ap (found TooMany n) h.many)))

pub judges : Judges Rules line_fault after Good added
judges = record {
  alone = λ b n l e. (parts_of_lem b n l e).0;
  blank = λ b n l e t.
      let z : tokens_of l ≡ [] = (blank_decides l (is_blank l) refl).0 t in
      from_parts b n l e (record { declared = ap (first_at _ (form Rules ∷ [])) z; used = ap (first_at _ (form Rules ∷ [])) z; many = blank_few b l z });
  skipped = λ b l t. after_blank b l ((blank_decides l (is_blank l) refl).0 t);
  grown = λ b l f s. after_added b l f s.fits s.spelled;
  good = λ b n l f s e.
      let h = (parts_of_lem b n l e).1 in
      record {
        new = order_from _ _ (tells (λ r w. true) (m_fresh b) Rules (tokens_of l) _ refl f s.fits s.spelled) h.declared;
        grouped = order_from _ _ (tells (λ r w. true) (m_goes b) Rules (tokens_of l) _ refl f s.fits s.spelled) h.used;
        few = few b l f s.fits s.spelled h.many;
      };
  passes = λ b n l f e s g.
      from_parts b n l e (record {
        declared = none_from _ _ (tells (λ r w. true) (m_fresh b) Rules (tokens_of l) _ refl f s.fits s.spelled) g.new;
        used = none_from _ _ (tells (λ r w. true) (m_goes b) Rules (tokens_of l) _ refl f s.fits s.spelled) g.grouped;
        many = few_none b l f s g.few;
      });
}

-- the verdict is nothing just if the file is in order
pub in_plain_words : (xs : List ℕ) → (verdict xs ≡ None → RulesInOrder xs) × (RulesInOrder xs → verdict xs ≡ None)
in_plain_words xs = (
  λ e. let q = whole_none _ FileTooLong _ e in
      (ltb-false file_limit (length xs) q.0, in_order Rules line_fault after Good added judges (lines_of xs) nothing 1 q.1),
  λ o. cond-false _ _ _ (le-ltb file_limit (length xs) o.0) ∙ no_verdict Rules line_fault after Good added judges (lines_of xs) nothing 1 o.1,
)
