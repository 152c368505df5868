-- One line more of a book.
use Rattle.rules.specs.declared.rule_book.Book.{Book}
use Rattle.std.proofs.Common.{◌≡◌, ℕ, ◌+◌, ◌<◌, true, false, List, [], ◌∷◌, ◌++◌, length, Some, None, Option, Ok, Err, Result, sym, refl, ap, ◌∙◌, inl, inr, ⊎_elim, arith}
use Rattle.std.proofs.lemmas.List.{length-map}
use Rattle.std.proofs.lemmas.Bool.{both_ways, and_from, and_parts, lt-ltb, le-leb, ltb-true}
use Rattle.geometry.specs.Limits.{most_lines}
use Rattle.text.specs.Lines.{is_blank}
use Rattle.grammar.specs.Forms.{Guard, Body, Form, material, rule, lot}
use Rattle.grammar.specs.declared.state.FileKind.TheVariants.{Rules}
use Rattle.judge.proofs.Accepted.{accepts}
use Rattle.judge.specs.Files.{some, Spells}
use Rattle.judge.specs.Judged.{judged, Acceptable}
use Rattle.bounded.specs.Held.{Pushed}
use Rattle.bounded.specs.declared.full.Full.{Full}
use Rattle.std.specs.Result.{result_ok}
use Rattle.forms.specs.Reads.{RuleRead, NoRule}
use Rattle.forms.specs.Told.{Name, bytes_of}
use Rattle.forms.specs.declared.rule.RuleLine.{RuleLine}
use Rattle.rules.proofs.Orderly.{few, parts_of_lem}
use Rattle.rules.proofs.Standing.{material_some, rule_none}
use Rattle.rules.specs.Before.{left_by, declared_in}
use Rattle.rules.specs.Holds.{parts_of, with_rule, Grown, has_room, MaterialTaken, RuleTaken, FormTaken, Fitting}
use Rattle.rules.specs.Verdicts.{part_room, all_parts, line_fault, Few}

-- a book that fits has room for a rule line that is none too many
module _ (p : Book) (l w : List ℕ) (gs : List Guard) (b : Body) (s : Spells Rules l (rule w gs b)) (few : Few (left_by p) (rule w gs b)) (f : Fitting p) where
  few_lines : length p.lines < most_lines
  few_lines = omega (arith, few.0, f.paired, length-map p.names bytes_of)

  pub no_room : has_room p ≡ false → ⊥
  no_room e = both_ways (has_room p) e (and_from _ _ (lt-ltb _ most_lines few_lines) (le-leb _ all_parts f.parts))

  pub not_read : (room : ℕ) → room ≡ part_room (left_by p) → NoRule l room p.names p.uses → ⊥
  not_read room e h =
      h w gs b s.fits s.numbers (omega (arith, few.1)) (omega (arith, few.1)) (omega (arith, few_lines, f.paired))
      (omega (arith, few_lines, f.spare)) s.spelled

-- a rule line was read and stands at the end
pub rule_added : (n : ℕ) (l : List ℕ) (p : Book) (names uses : List Name) (lines : List RuleLine) (k : ℕ) (r : RuleLine) (x : Result Unit Full)
    → RuleRead n l p.names names p.uses uses r → Pushed 64 p.lines r lines x → has_room p ≡ true → k ≡ parts_of r.body
    → RuleTaken n l p (record { materials = p.materials; names = names; lines = lines; uses = uses; parts = p.parts + k }) (result_ok x)
rule_added n l p names uses lines k r (Ok u) h q room e = record {
  own = h.own;
  line = r;
  used = h.used;
  says = h.says;
  from = h.from;
  counted = h.counted;
  grown = same names uses lines k h.named h.grown q.1 e;
}
  where
    same : (ns us : List Name) (ls : List RuleLine) (k : ℕ) → ns ≡ p.names ++ h.own ∷ [] → us ≡ p.uses ++ h.used → ls ≡ p.lines ++ r ∷ [] → k ≡ parts_of r.body
        → ◌≡◌ {A = Book} (record { materials = p.materials; names = ns; lines = ls; uses = us; parts = p.parts + k }) (with_rule p h.own r h.used)
    same ns us ls k a b c d = cc
rule_added n l p names uses lines k r (Err f) h q room e =
    absurd (omega (arith, q.0, ltb-true (length p.lines) most_lines (and_parts _ _ room).0))

-- pages that stay
pub same_pages : (p : Book) (ns us : List Name) → ns ≡ p.names → us ≡ p.uses
    → ◌≡◌ {A = Book} (record { materials = p.materials; names = ns; lines = p.lines; uses = us; parts = p.parts }) p
same_pages p ns us a b =
    ap (λ (n : List Name). record { materials = p.materials; names = n; lines = p.lines; uses = us; parts = p.parts }) a
    ∙ ap (λ (u : List Name). record { materials = p.materials; names = p.names; lines = p.lines; uses = u; parts = p.parts }) b

-- a line that declares a material, or is none that does
module _ (n : ℕ) (l : List ℕ) (p q : Book) where
  pub form_material : (t : Option (Unit {0})) → true ≡ some (declared_in l) → MaterialTaken n l p q t → FormTaken n l p q t
  form_material (Some u) e h = inl h
  form_material None e h = (h.0, none) where
    none : (f : Form) → Spells Rules l f → Few (left_by p) f → Fitting p → ⊥
    none (material w) s few f = omega (arith, few, h.1 w s.spelled, length-map p.materials bytes_of)
    none (rule w gs b) s few f = both_ways (some (declared_in l)) (rule_none l w gs b s.fits s.spelled) (sym e)
    none (lot px py pz sx sy sz w) s few f = s.fits

  pub form_rule : (t : Option (Unit {0})) → false ≡ some (declared_in l) → RuleTaken n l p q t → FormTaken n l p q t
  form_rule (Some u) e h = inr h
  form_rule None e h = (h.0, none) where
    none : (f : Form) → Spells Rules l f → Few (left_by p) f → Fitting p → ⊥
    none (material w) s few f = both_ways (some (declared_in l)) (sym e) (material_some l w s.spelled)
    none (rule w gs b) s few f = h.1 w gs b s few f
    none (lot px py pz sx sy sz w) s few f = s.fits

  -- a line without fault that is not blank is added
  pub form_grown : (t : Option (Unit {0})) → None ≡ line_fault (left_by p) n l → false ≡ is_blank l → Fitting p → FormTaken n l p q t → Grown n l p q
  form_grown (Some u) e b f h = inr h
  form_grown None e b f h =
      let m = parts_of_lem (left_by p) n l (sym e) in
      let a : Acceptable Rules l = (accepts Rules l n (judged Rules n l) refl).0 m.0 in
      ⊎_elim
      (λ t. absurd (both_ways (is_blank l) (sym b) t))
      (λ s. absurd (h.1 s.0 (record { fits = s.1; spelled = s.2; numbers = s.3; names = s.4 })
      (few (left_by p) l s.0 s.1 s.2 m.1.many) f))
      a.2
