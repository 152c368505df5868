-- A line that applies lies in the scope's own rule.
use Rattle.rules.specs.declared.rule_book.Book.{Book}
use Rattle.forms.specs.Told.{guards_of}
use Rattle.std.proofs.Common.{◌≡◌, ℕ, zero, suc, ◌+◌, ◌-◌, ◌<◌, ◌≤◌, true, false, List, [], ◌∷◌, length, get_or, drop, Some, refl, ap, ◌∙◌, subst, ⊎_elim, arith}
use mathlib.Core.HLevel.{Π_prop, ×_prop}
use mathlib.Core.List.{is_set}
use native.Mathlib.Bridge.{le_prop}
use native.Mathlib.Nat.{ℕ_set}
use Rattle.std.specs.Str.{bytes_eq}
use Rattle.std.proofs.lemmas.List.Quantifiers.{position-Some}
use Rattle.std.proofs.lemmas.Slice.Eq.{bytes_eq-Decides}
use Rattle.std.proofs.lemmas.Bool.{both_ways, not-false, cases_lt}
use Rattle.geometry.specs.declared.cuboid.Cuboid.{Cuboid}
use Rattle.book.specs.Applying.{Applies}
use Rattle.book.specs.declared.line.Line.{Line}
use Rattle.book.proofs.Scans.{open_free}
use Rattle.forms.specs.Told.{Name, bytes_of}
use Rattle.book_check.specs.Faults.{first_named, ends}
use Rattle.book_check.specs.Resolved.{Resolved, StaysInRule}
use Rattle.book_check.proofs.Clears.{Accepted, within, neither, line_clear, goes_on}
use Rattle.book_check.proofs.Resolvings.{some_of}

-- name i is w
pub record HasName (ns : List Name) (i : ℕ) (w : List ℕ) : Type 0 where
  pub there : i < length ns
  pub named : (n : Name) → bytes_of (get_or ns i n) ≡ w

-- a rule that does not end goes on with its name
goes_on_with : (w : List ℕ) (ns : List Name) (i : ℕ) → ends w (drop i ns) ≡ false → HasName ns i w
goes_on_with w [] zero e = absurd (both_ways true e refl)
goes_on_with w [] (suc i) e = absurd (both_ways true e refl)
goes_on_with w (n ∷ ns) zero e = record { there = omega arith; named = λ d. (bytes_eq-Decides (bytes_of n) w).0 (not-false _ e) }
goes_on_with w (n ∷ ns) (suc i) e = let h = goes_on_with w ns i e in record { there = omega arith; named = h.named }

-- the line after one that is closed to the box
next_line : (ps : Book) → Accepted ps → (ls : List Line) → Resolved ps ls → (w : List ℕ) (rule : ℕ) (c : Cuboid) (i : ℕ) (l : Line) → Applies ls rule c i l
    → (k : ℕ) → rule ≤ k → k < i → HasName ps.names k w → HasName ps.names (suc k) w
next_line ps a ls o w rule c i l p k h g m =
    let n = some_of ps.names k m.there in
    let q : k < length ps.lines = omega (arith, a.paired) in
    let r = some_of ps.lines k q in
    let z = o.own k n r l q in
    let s : 0 < length (guards_of (get_or ps.lines k r)) =
    ⊎_elim (λ x. x) (λ x. let y : length (guards_of (get_or ps.lines k r)) ≡ 0 = omega arith in absurd (both_ways _ (p.first k l h g) (open_free c (get_or ls k l) (ap length z.guards ∙ y)))) (cases_lt 0 (length (guards_of (get_or ps.lines k r)))) in
    let e = goes_on (get_or ps.names k n) (drop (suc k) ps.names) (get_or ps.lines k r) (neither _ _ (line_clear ps a k n r q)).0 s in
    let f = goes_on_with (bytes_of (get_or ps.names k n)) ps.names (suc k) e in
    record { there = f.there; named = λ d. f.named d ∙ m.named n }

walk : (ps : Book) → Accepted ps → (ls : List Line) → Resolved ps ls → (w : List ℕ) (rule : ℕ) (c : Cuboid) (i : ℕ) (l : Line) → Applies ls rule c i l
    → HasName ps.names rule w → (m : ℕ) → rule + m ≤ i → HasName ps.names (rule + m) w
walk ps a ls o w rule c i l p b zero h = let z : rule ≡ rule + 0 = omega arith in subst (λ k. HasName ps.names k w) z b
walk ps a ls o w rule c i l p b (suc m) h =
    let z : suc (rule + m) ≡ rule + suc m = omega arith in
    subst (λ k. HasName ps.names k w) z (next_line ps a ls o w rule c i l p (rule + m) (omega arith) (omega arith) (walk ps a ls o w rule c i l p b m (omega arith)))

first_has : (w : List ℕ) (ns : List Name) (rule : ℕ) → first_named w ns ≡ Some rule → HasName ns rule w
first_has w ns rule e = record {
  there = within w ns rule e;
  named = λ d. (bytes_eq-Decides (bytes_of (get_or ns rule d)) w).0 (position-Some (λ m. bytes_eq (bytes_of m) w) ns rule d e).1;
}

pub stays_in_rule : (ps : Book) → Accepted ps → (ls : List Line) → Resolved ps ls → StaysInRule ps ls
stays_in_rule ps a ls o w rule c i l e p k h g =
    let z : rule + (k - rule) ≡ k = omega arith in
    let m = subst (λ j. HasName ps.names j w) z (walk ps a ls o w rule c i l p (first_has w ps.names rule e) (k - rule) (omega arith)) in
    (omega (arith, a.paired), m.named)

pub stays_prop : (ps : Book) (ls : List Line) → IsProp (StaysInRule ps ls)
stays_prop ps ls =
    Π_prop (λ w. Π_prop (λ rule. Π_prop (λ c. Π_prop (λ i. Π_prop (λ l. Π_prop (λ e. Π_prop (λ p. Π_prop (λ k. Π_prop (λ h. Π_prop (λ g. ×_prop le_prop (Π_prop (λ n. is_set ℕ_set (bytes_of (get_or ps.names k n)) w))))))))))))
