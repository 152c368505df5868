-- Scans that stop at the first element that fails.
use Rattle.std.proofs.Common.{◌≡◌, ℕ, zero, suc, ◌+◌, ◌-◌, ◌<◌, ◌≤◌, Bool, true, false, cond, Some, None, ⊎_elim, lt-ltb, ◌&&◌, eqb, List, [], ◌∷◌, length, get_or, drop, sym, refl, ap, ◌∙◌, arith, eqb-true}
use Rattle.std.proofs.lemmas.List.{nil_from_length, get_or-drop, length-drop}
use Rattle.std.proofs.lemmas.List.Quantifiers.{position-Some}
use Rattle.std.proofs.lemmas.List.Sums.{fails_before_first}
use Rattle.std.proofs.lemmas.Option.{none-some, slice_get_within, get_or_from_slice_get}
use Rattle.std.proofs.lemmas.Bool.{cases_lt}
use Rattle.std.specs.List.{list_all, enumerate_from, slice_get, position, position_or_len}
use Rattle.geometry.specs.declared.cuboid.Cuboid.{Cuboid}
use Rattle.book.specs.declared.line.Line.{Line}
use Rattle.book.specs.Applying.{hold, opens_to, Applies}
use Rattle.book.specs.Checks.{guards_of, ok_body, ok_from, last_free}

-- the last of n + 1 lines
pub last_is_lem : (ls : List Line) (n : ℕ) (d : Line) → length ls ≡ n + 1 → last_free ls ≡ eqb (length (guards_of (get_or ls n d))) 0
last_is_lem [] n d e = absurd (omega arith)
last_is_lem (l ∷ []) zero d e = refl
last_is_lem (l ∷ []) (suc n) d e = absurd (omega arith)
last_is_lem (l ∷ m ∷ ls) zero d e = absurd (omega arith)
last_is_lem (l ∷ m ∷ ls) (suc n) d e = last_is_lem (m ∷ ls) n d (omega arith)

pub last_unguarded : (ls : List Line) (n : ℕ) (d : Line) → length ls ≡ n + 1 → last_free ls ≡ true → (length (guards_of (get_or ls n d))) ≡ 0
last_unguarded ls n d e h = eqb-true (length (guards_of (get_or ls n d))) 0 (sym (last_is_lem ls n d e) ∙ h)

pub last_read : (ls : List Line) (l : Line) → Some l ≡ slice_get ls (length ls - 1) → last_free ls ≡ eqb (length (guards_of l)) 0
last_read ls l e =
    let h : length ls - 1 < length ls = slice_get_within ls (length ls - 1) l (sym e) in
    last_is_lem ls (length ls - 1) l (omega arith) ∙ ap (λ x. eqb (length (guards_of x)) 0) (get_or_from_slice_get ls (length ls - 1) l l (sym e))

-- a line without a guard is open to every box
pub open_free : (c : Cuboid) (l : Line) → length (guards_of l) ≡ 0 → opens_to c l ≡ true
open_free c l e = ap (hold c) (nil_from_length (guards_of l) e)

-- the test on the lines is one on each with its index
pub from_enumerated : (i : ℕ) (ls : List Line) → ok_from i ls ≡ list_all (λ (p : ℕ × Line). ok_body p.0 p.1.body) (enumerate_from i ls)
from_enumerated i [] = refl
from_enumerated i (l ∷ ls) = ap (λ x. ok_body i l.body && x) (from_enumerated (i + 1) ls)

-- a search that finds no line passes them all by
none_passes : {X : Type 0} (p : X → Bool) (xs : List X) → position p xs ≡ None → length xs ≤ position_or_len p xs
none_passes p xs e =
    ⊎_elim
    (λ h. absurd (none-some (position_or_len p xs) (sym e ∙ ap (λ b. cond b (Some (position_or_len p xs)) None) (lt-ltb (position_or_len p xs) (length xs) h))))
    (λ h. h)
    (cases_lt (position_or_len p xs) (length xs))

-- what a search from the rule's first line on finds applies
pub open_applies : (ls xs : List Line) (r k : ℕ) (c : Cuboid) (d : Line) → xs ≡ drop r ls → position (opens_to c) xs ≡ Some k → d ≡ get_or ls (r + k) d
    → Applies ls r c (r + k) (get_or ls (r + k) d)
open_applies ls xs r k c d x e h =
    let f : position (opens_to c) (drop r ls) ≡ Some k = ap (position (opens_to c)) (sym x) ∙ e in
    let p = position-Some (opens_to c) (drop r ls) k d f in
    record {
      from = omega arith;
      there = omega (arith, p.0, length-drop r ls);
      line = ap (get_or ls (r + k)) h;
      holding = ap (opens_to c) (sym (get_or-drop r ls k d)) ∙ p.1;
      first = λ j l low high.
          let z : r + (j - r) ≡ j = omega arith in
          ap (opens_to c) (ap (λ n. get_or ls n l) (sym z) ∙ sym (get_or-drop r ls (j - r) l)) ∙ (position-Some (opens_to c) (drop r ls) k l f).2 (j - r) (omega arith);
    }

-- the last line is open, so a search finds one
pub never_closed : (ls xs : List Line) (r : ℕ) (c : Cuboid) → length ls ≡ 64 → r < 64 → last_free ls ≡ true → xs ≡ drop r ls → position (opens_to c) xs ≡ None → ⊥
never_closed [] xs r c n h o x e = absurd (omega arith)
never_closed (l ∷ ls) xs r c n h o x e =
    let most = none_passes (opens_to c) (drop r (l ∷ ls)) (ap (position (opens_to c)) (sym x) ∙ e) in
    let z : r + (63 - r) ≡ 63 = omega arith in
    let shut = fails_before_first (opens_to c) (drop r (l ∷ ls)) (63 - r) l (omega (arith, most, length-drop r (l ∷ ls), n)) in
    let held = open_free c (get_or (l ∷ ls) 63 l) (last_unguarded (l ∷ ls) 63 l n o) in
    let both : true ≡ false = sym held ∙ ap (opens_to c) (ap (λ n. get_or (l ∷ ls) n l) (sym z) ∙ sym (get_or-drop r (l ∷ ls) (63 - r) l)) ∙ shut in
    cc
