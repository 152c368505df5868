-- What a book leaves after it has grown by a line.
use Rattle.rules.specs.declared.rule_book.Book.{Book}
use Rattle.std.proofs.Common.{◌≡◌, ℕ, suc, ◌+◌, ◌≤◌, Bool, ltb, List, [], ◌∷◌, map, length, sym, refl, ap, ◌∙◌, ⊎_elim, arith}
use Rattle.std.proofs.lemmas.List.{length-map, map-append}
use Rattle.std.proofs.lemmas.Bool.{lt-ltb}
use Rattle.text.proofs.Blank.{blank_decides}
use Rattle.text.specs.Lines.{is_blank}
use Rattle.grammar.specs.Forms.{material, Part}
use Rattle.bounded.proofs.Listed.{listed_few}
use Rattle.book.specs.declared.guard.Guard.{Guard}
use Rattle.rows.specs.declared.part.Part.{Part as RowPart}
use Rattle.rows.specs.Rows.{parts_of as row_parts}
use Rattle.forms.specs.Reads.{part_count}
use Rattle.forms.specs.Told.{Name, bytes_of, guard_of, guards_of, part_forms, split_of, body_of, uses_of, rule_of}
use Rattle.forms.specs.declared.rule.RuleLine.{RuleLine}
use Rattle.forms.specs.declared.shape.Shape.{Shape}
use Rattle.forms.specs.declared.shape.Shape.TheVariants.{Make, Use, Repeat, Split}
use Rattle.judge.specs.Files.{some}
use Rattle.rules.proofs.Lists.{last_push}
use Rattle.rules.proofs.Standing.{after_added, after_blank}
use Rattle.rules.specs.Before.{Before, left_by, after, added}
use Rattle.rules.specs.Holds.{parts_of, with_material, with_rule, RuleAdded, MaterialAdded, Grown}

-- a rule line has a guard just if it says one
some_guards : (gs : List Guard) → ltb 0 (length gs) ≡ some (map guard_of gs)
some_guards [] = refl
some_guards (g ∷ gs) = lt-ltb 0 (length (g ∷ gs)) (omega arith)

forms_length : (ps : List RowPart) (ns : List Name) → length ps ≡ length ns → length (part_forms ps ns) ≡ length ps
forms_length [] ns e = refl
forms_length (p ∷ ps) [] e = absurd (omega arith)
forms_length (p ∷ ps) (n ∷ ns) e = ap suc (forms_length ps ns (omega arith))

split_count : (a : _) (ps : List Part) → part_count (split_of a ps) ≡ length ps
split_count a [] = refl
split_count a (p ∷ ps) = omega arith

pub body_count : (s : Shape) (ns : List Name) → length ns ≡ uses_of s → part_count (body_of s ns) ≡ parts_of s
body_count Make ns e = refl
body_count Use ns e = refl
body_count (Repeat a t) ns e = refl
body_count (Split a p) ns e =
    split_count _ _ ∙ forms_length (row_parts p) ns (sym e)

same_before : (ms ms' ns ns' : List (List ℕ)) (t t' : Bool) (n n' : ℕ) → ms ≡ ms' → ns ≡ ns' → t ≡ t' → n ≡ n'
    → ◌≡◌ {A = Before} (record { materials = ms; names = ns; guarded = t; parts = n }) (record { materials = ms'; names = ns'; guarded = t'; parts = n' })
same_before ms ms' ns ns' t t' n n' p q r s = cc

left_material : (p : Book) (m : Name) → left_by (with_material p m) ≡ added (left_by p) (material (bytes_of m))
left_material p m = same_before _ _ _ _ _ _ _ _ (map-append bytes_of p.materials (m ∷ [])) refl refl refl

left_rule : (p : Book) (own : Name) (r : RuleLine) (used : List Name) → length used ≡ uses_of r.body
    → left_by (with_rule p own r used) ≡ added (left_by p) (rule_of own r used)
left_rule p own r used e =
    same_before _ _ _ _ _ _ _ _ refl (map-append bytes_of p.names (own ∷ []))
    (last_push (λ (s : RuleLine). ltb 0 (length (guards_of s))) p.lines r ∙ some_guards (guards_of r))
    (ap (λ n. p.parts + n) (sym (body_count r.body used e)))

pub few_guards : (r : RuleLine) → length (map guard_of (guards_of r)) ≤ 3
few_guards r = simp length-map (omega (arith, listed_few r.guards))

-- after one line more
pub left_grown : (n : ℕ) (l : List ℕ) (p q : Book) → Grown n l p q → left_by q ≡ after (left_by p) l
left_grown n l p q g =
    ⊎_elim
    (λ b. ap left_by b.1 ∙ sym (after_blank (left_by p) l ((blank_decides l (is_blank l) refl).0 b.0)))
    (⊎_elim
    (λ (a : MaterialAdded n l p q). ap left_by a.grown
    ∙ (left_material p a.declared ∙ sym (after_added (left_by p) l (material (bytes_of a.declared)) tt a.says.spelled)))
    (λ (a : RuleAdded n l p q). ap left_by a.grown
    ∙ (left_rule p a.own a.line a.used a.counted
    ∙ sym (after_added (left_by p) l (rule_of a.own a.line a.used) (few_guards a.line) a.says.spelled))))
    g
