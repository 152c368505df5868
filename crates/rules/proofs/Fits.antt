-- A book fits while it is read.
use Rattle.rules.specs.declared.rule_book.Book.{Book}
use Rattle.std.proofs.Common.{◌≡◌, ℕ, ◌+◌, ◌≤◌, true, List, [], ◌∷◌, ◌++◌, map, length, None, sym, refl, subst, ⊎_elim, arith}
use Rattle.std.proofs.lemmas.List.{length-map, length-append, length-take, length-drop}
use Rattle.std.proofs.lemmas.Bool.{and_parts, and_from, leb-true, le-leb, eq-eqb}
use Rattle.book.specs.Checks.{every}
use Rattle.rows.specs.Parts.{most_parts}
use Rattle.bounded.proofs.Listed.{listed_few}
use Rattle.grammar.specs.Forms.{material}
use Rattle.forms.specs.Told.{Name, bytes_of, uses_of, rule_of}
use Rattle.forms.specs.declared.rule.RuleLine.{RuleLine}
use Rattle.forms.specs.declared.shape.Shape.{Shape}
use Rattle.forms.specs.declared.shape.Shape.TheVariants.{Make, Use, Repeat, Split}
use Rattle.rules.proofs.Left.{body_count, few_guards}
use Rattle.rules.proofs.Orderly.{few, parts_of_lem}
use Rattle.rules.specs.Before.{left_by}
use Rattle.rules.specs.Holds.{with_material, with_rule, RuleAdded, MaterialAdded, Grown, complete, fits, inside, Fitting}
use Rattle.rules.specs.Verdicts.{line_fault, Few}

-- a body uses at most as many names as a split has parts
uses_few : (s : Shape) → uses_of s ≤ most_parts
uses_few Make = omega arith
uses_few Use = omega arith
uses_few (Repeat a t) = omega arith
uses_few (Split a p) = listed_few p.parts

-- lines that use names among the first m use them among the first n, and so with one line more
inside_more : (m n : ℕ) (rs : List RuleLine) (r : RuleLine) → m ≤ n → every (inside m) rs ≡ true → inside n r ≡ true → every (inside n) (rs ++ r ∷ []) ≡ true
inside_more m n [] r h e i = and_from _ _ i refl
inside_more m n (s ∷ rs) r h e i =
    let q = and_parts _ _ e in
    and_from _ _ (le-leb _ n (omega (arith, leb-true (s.from + uses_of s.body) m q.0))) (inside_more m n rs r h q.1 i)

pub fitting_material : (p : Book) (m : Name) → Fitting p → length (map bytes_of p.materials) + 1 ≤ 15 → Fitting (with_material p m)
fitting_material p m f h = record {
  paired = f.paired;
  lines = f.lines;
  materials = simp length-append (omega (arith, length-map p.materials bytes_of));
  whole = f.whole;
  spare = f.spare;
  parts = f.parts;
}

pub fitting_rule : (p : Book) (own : Name) (r : RuleLine) (used : List Name) → Fitting p → r.from ≡ length p.uses → length used ≡ uses_of r.body
    → Few (left_by p) (rule_of own r used) → Fitting (with_rule p own r used)
fitting_rule p own r used f e c h =
    let few = uses_few r.body in
    let k = body_count r.body used c in
    record {
      paired = simp length-append (omega (arith, f.paired));
      lines = simp length-append (omega (arith, f.paired, h.0, length-map p.names bytes_of));
      materials = f.materials;
      whole = inside_more _ _ p.lines r (simp length-append (omega arith)) f.whole (le-leb _ _ (simp length-append (omega arith)));
      spare = simp length-append (omega (arith, f.spare));
      parts = omega (arith, h.1, f.parts);
    }

-- a book that grows by a line without fault fits
pub fitting_grown : (n : ℕ) (l : List ℕ) (p q : Book) → Fitting p → line_fault (left_by p) n l ≡ None → Grown n l p q → Fitting q
fitting_grown n l p q f e g =
    let many = (parts_of_lem (left_by p) n l e).1.many in
    ⊎_elim
    (λ b. subst Fitting (sym b.1) f)
    (⊎_elim
    (λ (a : MaterialAdded n l p q). subst Fitting (sym a.grown)
    (fitting_material p a.declared f (few (left_by p) l (material (bytes_of a.declared)) tt a.says.spelled many)))
    (λ (a : RuleAdded n l p q). subst Fitting (sym a.grown)
    (fitting_rule p a.own a.line a.used f a.from a.counted
    (few (left_by p) l (rule_of a.own a.line a.used) (few_guards a.line) a.says.spelled many))))
    g

inside_complete : (us : List Name) (r : RuleLine) → inside (length us) r ≡ true → complete us r ≡ true
inside_complete us r e =
    let h = leb-true (r.from + uses_of r.body) (length us) e in
    eq-eqb _ _ (simp (length-take, length-drop) (omega arith))

all_complete : (us : List Name) (rs : List RuleLine) → every (inside (length us)) rs ≡ true → every (complete us) rs ≡ true
all_complete us [] e = refl
all_complete us (r ∷ rs) e = let q = and_parts _ _ e in and_from _ _ (inside_complete us r q.0) (all_complete us rs q.1)

pub fitting_fits : (p : Book) → Fitting p → fits p ≡ true
fitting_fits p f =
    and_from _ _ (eq-eqb _ _ f.paired)
    (and_from _ _ (le-leb _ _ f.lines) (and_from _ _ (le-leb _ _ f.materials) (all_complete p.uses p.lines f.whole)))
