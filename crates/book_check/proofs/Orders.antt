-- A book without a fault is one with all lines in order.
use Rattle.rules.specs.declared.rule_book.Book.{Book}
use Rattle.forms.specs.Told.{guards_of}
use Rattle.std.proofs.Common.{◌≡◌, ℕ, zero, suc, ◌+◌, ◌<◌, true, ◌&&◌, ltb, List, [], ◌∷◌, length, get_or, drop, Some, None, Option, sym, refl, ap, ◌∙◌, subst, ⊎_elim, arith}
use Rattle.std.specs.List.{AllByRecursion}
use Rattle.std.proofs.lemmas.Bool.{lt-ltb, le-ltb, cond-true, cond-false, and_left, and_right, cases_Bool}
use Rattle.text.specs.Findings.{or_else}
use Rattle.text.specs.declared.placed.Placed.{Placed}
use Rattle.judge.specs.declared.faults.Fault.{Fault}
use Rattle.judge.specs.declared.faults.Fault.TheVariants.{LastLineGuarded, NotFurtherDown}
use Rattle.forms.specs.Told.{Name, bytes_of, used_by}
use Rattle.forms.specs.declared.rule.RuleLine.{RuleLine}
use Rattle.book_check.specs.declared.kind.Kind.{Kind}
use Rattle.book_check.specs.declared.kind.Kind.TheVariants.{Material, Below, Anywhere}
use Rattle.book_check.specs.Faults.{kind_of, meaning, fault_at, meant_fault, name_fault, used_fault, ends, guard_fault, line_fault, lines_fault, book_fault, MayUse, InOrder, AllInOrder, fault_of, FirstFault}
use Rattle.book_check.proofs.Clears.{neither, Fine, name_meant, free_at_end, line_from}

fine_below : (ps : Book) (i : ℕ) (k : Kind) (j : ℕ) → Fine ps i k j → k ≡ Below → i < j
fine_below ps i Material j h e = let z : ◌≡◌ {A = ℕ} 0 1 = cc in absurd (omega arith)
fine_below ps i Below j h e = h.0
fine_below ps i Anywhere j h e = let z : ◌≡◌ {A = ℕ} 0 1 = cc in absurd (omega arith)

used_in_order : (ps : Book) (i : ℕ) (k : Kind) (ns : List Name) → used_fault ps i k ns ≡ None → AllByRecursion (MayUse ps i k) ns
used_in_order ps i k [] e = tt
used_in_order ps i k (n ∷ ns) e =
    let m = name_meant ps i k n (meaning ps k (bytes_of n)) refl (neither _ _ e).0 in
    ((m.0, m.1, fine_below ps i k m.0 m.2), used_in_order ps i k ns (neither _ _ e).1)

line_in_order : (ps : Book) (i : ℕ) (n : Name) (ns : List Name) (r : RuleLine) → line_fault ps i n ns r ≡ None → InOrder ps i n ns r
line_in_order ps i n ns r e = record {
  free = free_at_end n ns r (neither _ _ e).0;
  uses = used_in_order ps i (kind_of r.body) (used_by ps.uses r) (neither _ _ e).1;
}

meant_clear : (i : ℕ) (k : Kind) (n : Name) (j : ℕ) → (k ≡ Below → i < j) → meant_fault i k n (Some j) ≡ None
meant_clear i Material n j h = refl
meant_clear i Below n j h = cond-true (ltb i j) None (Some (fault_at NotFurtherDown n)) (lt-ltb i j (h refl))
meant_clear i Anywhere n j h = refl

used_clear : (ps : Book) (i : ℕ) (k : Kind) (ns : List Name) → AllByRecursion (MayUse ps i k) ns → used_fault ps i k ns ≡ None
used_clear ps i k [] h = refl
used_clear ps i k (n ∷ ns) h =
    let m = h.0 in
    let e : name_fault ps i k n ≡ None = ap (meant_fault i k n) m.1 ∙ meant_clear i k n m.0 m.2 in
    ap (λ o. or_else o (used_fault ps i k ns)) e ∙ used_clear ps i k ns h.1

guard_clear : (n : Name) (ns : List Name) (r : RuleLine) → (ends (bytes_of n) ns ≡ true → length (guards_of r) ≡ 0) → guard_fault n ns r ≡ None
guard_clear n ns r h =
    cond-false (ltb 0 (length (guards_of r)) && ends (bytes_of n) ns) (Some (fault_at LastLineGuarded n)) None
    (⊎_elim (λ e. let z = h e in and_left _ _ (le-ltb 0 (length (guards_of r)) (omega arith))) (λ e. and_right _ _ e) (cases_Bool (ends (bytes_of n) ns)))

in_order_clear : (ps : Book) (i : ℕ) (n : Name) (ns : List Name) (r : RuleLine) → InOrder ps i n ns r → line_fault ps i n ns r ≡ None
in_order_clear ps i n ns r o =
    ap (λ x. or_else x (used_fault ps i (kind_of r.body) (used_by ps.uses r))) (guard_clear n ns r o.free)
    ∙ used_clear ps i (kind_of r.body) (used_by ps.uses r) o.uses

-- the lines of a list are clear if each of them is
lines_clear : (ps : Book) (k : ℕ) (ns : List Name) (rs : List RuleLine)
    → ((i : ℕ) (n : Name) (r : RuleLine) → i < length ns → i < length rs → line_fault ps (k + i) (get_or ns i n) (drop (suc i) ns) (get_or rs i r) ≡ None)
    → lines_fault ps k ns rs ≡ None
lines_clear ps k [] rs h = refl
lines_clear ps k (n ∷ ns) [] h = refl
lines_clear ps k (n ∷ ns) (r ∷ rs) h =
    let z : k + 0 ≡ k = omega arith in
    let e : line_fault ps k n ns r ≡ None = subst (λ j. line_fault ps j n ns r ≡ None) z (h 0 n r (omega arith) (omega arith)) in
    ap (λ x. or_else x (lines_fault ps (k + 1) ns rs)) e
    ∙ lines_clear ps (k + 1) ns rs (λ i m q a b. let y : k + suc i ≡ k + 1 + i = omega arith in
    subst (λ j. line_fault ps j (get_or ns i m) (drop (suc i) ns) (get_or rs i q) ≡ None) y (h (suc i) m q (omega arith) (omega arith)))

-- the first line with a fault, from line k on
record First (ps : Book) (k : ℕ) (ns : List Name) (rs : List RuleLine) (p : Placed Fault) : Type 0 where
  i : ℕ
  named : i < length ns
  there : i < length rs
  has : (n : Name) (r : RuleLine) → line_fault ps (k + i) (get_or ns i n) (drop (suc i) ns) (get_or rs i r) ≡ Some p
  before : (j : ℕ) (n : Name) (r : RuleLine) → j < i → line_fault ps (k + j) (get_or ns j n) (drop (suc j) ns) (get_or rs j r) ≡ None

before_step : (ps : Book) (k : ℕ) (n : Name) (ns : List Name) (r : RuleLine) (rs : List RuleLine) (i : ℕ) → line_fault ps k n ns r ≡ None
    → ((j : ℕ) (m : Name) (q : RuleLine) → j < i → line_fault ps (k + 1 + j) (get_or ns j m) (drop (suc j) ns) (get_or rs j q) ≡ None)
    → (j : ℕ) (m : Name) (q : RuleLine) → j < suc i → line_fault ps (k + j) (get_or (n ∷ ns) j m) (drop j ns) (get_or (r ∷ rs) j q) ≡ None
before_step ps k n ns r rs i f b zero m q h = let z : k ≡ k + 0 = omega arith in subst (λ j. line_fault ps j n ns r ≡ None) z f
before_step ps k n ns r rs i f b (suc j) m q h =
    let z : k + 1 + j ≡ k + suc j = omega arith in
    subst (λ x. line_fault ps x (get_or ns j m) (drop (suc j) ns) (get_or rs j q) ≡ None) z (b j m q (omega arith))

first_step : (ps : Book) (k : ℕ) (n : Name) (ns : List Name) (r : RuleLine) (rs : List RuleLine) (p : Placed Fault) (o : Option (Placed Fault)) → line_fault ps k n ns r ≡ o
    → or_else o (lines_fault ps (k + 1) ns rs) ≡ Some p → (lines_fault ps (k + 1) ns rs ≡ Some p → First ps (k + 1) ns rs p) → First ps k (n ∷ ns) (r ∷ rs) p
first_step ps k n ns r rs p (Some q) f e later =
    let z : k ≡ k + 0 = omega arith in
    record {
      i = 0;
      named = omega arith;
      there = omega arith;
      has = λ m q. subst (λ j. line_fault ps j n ns r ≡ Some p) z (f ∙ e);
      before = λ j m q h. absurd (omega arith);
    }
first_step ps k n ns r rs p None f e later =
    let g = later e in
    record {
      i = suc g.i;
      named = let h = g.named in omega arith;
      there = let h = g.there in omega arith;
      has = λ m q. let z : k + 1 + g.i ≡ k + suc g.i = omega arith in
          subst (λ j. line_fault ps j (get_or ns g.i m) (drop (suc g.i) ns) (get_or rs g.i q) ≡ Some p) z (g.has m q);
      before = before_step ps k n ns r rs g.i f g.before;
    }

first_from_lem : (ps : Book) (k : ℕ) (ns : List Name) (rs : List RuleLine) (p : Placed Fault) → lines_fault ps k ns rs ≡ Some p → First ps k ns rs p
first_from_lem ps k [] rs p e = let z : ◌≡◌ {A = ℕ} 0 1 = cc in absurd (omega arith)
first_from_lem ps k (n ∷ ns) [] p e = let z : ◌≡◌ {A = ℕ} 0 1 = cc in absurd (omega arith)
first_from_lem ps k (n ∷ ns) (r ∷ rs) p e = first_step ps k n ns r rs p (line_fault ps k n ns r) refl e (first_from_lem ps (k + 1) ns rs p)

-- the fault of line i, with the index as the lists have it
at_line : (ps : Book) (i : ℕ) (n : Name) (r : RuleLine) (o : Option (Placed Fault)) → line_fault ps (0 + i) (get_or ps.names i n) (drop (suc i) ps.names) (get_or ps.lines i r) ≡ o → fault_of ps i n r ≡ o
at_line ps i n r o e =
    let z : 0 + i ≡ i = omega arith in
    let y : suc i ≡ i + 1 = omega arith in
    subst (λ j. line_fault ps i (get_or ps.names i n) (drop j ps.names) (get_or ps.lines i r) ≡ o) y
    (subst (λ j. line_fault ps j (get_or ps.names i n) (drop (suc i) ps.names) (get_or ps.lines i r) ≡ o) z e)

pub is_first : (ps : Book) (o : Option (Placed Fault)) → o ≡ book_fault ps → FirstFault ps o
is_first ps None e = λ i n r h g. line_in_order ps i (get_or ps.names i n) (drop (i + 1) ps.names) (get_or ps.lines i r)
    (at_line ps i n r None (line_from ps 0 ps.names ps.lines i n r (sym e) h g))
is_first ps (Some p) e =
    let f = first_from_lem ps 0 ps.names ps.lines p (sym e) in
    (f.i, f.named, f.there, λ n r. at_line ps f.i n r (Some p) (f.has n r), λ k n r h. at_line ps k n r None (f.before k n r h))

pub in_order_accepted : (ps : Book) → AllInOrder ps → book_fault ps ≡ None
in_order_accepted ps o =
    lines_clear ps 0 ps.names ps.lines (λ i n r h g.
    let z : i ≡ 0 + i = omega arith in
    let y : i + 1 ≡ suc i = omega arith in
    subst (λ j. line_fault ps j (get_or ps.names i n) (drop (suc i) ps.names) (get_or ps.lines i r) ≡ None) z
    (subst (λ j. line_fault ps i (get_or ps.names i n) (drop j ps.names) (get_or ps.lines i r) ≡ None) y
    (in_order_clear ps i (get_or ps.names i n) (drop (i + 1) ps.names) (get_or ps.lines i r) (o i n r h g))))
