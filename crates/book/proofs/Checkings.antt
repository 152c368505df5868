-- What the test on the lines tells.
use Rattle.std.proofs.Common.{◌≡◌, ℕ, zero, suc, ◌+◌, ◌<◌, true, ltb, List, [], ◌∷◌, length, get_or, sym, ap, ◌∙◌, subst, arith, ltb-true}
use Rattle.std.proofs.lemmas.Bool.{and_parts}
use Rattle.geometry.specs.Limits.{most_lines}
use Rattle.book.specs.declared.body.Body.{Body}
use Rattle.book.specs.declared.body.Body.TheVariants.{Make, Use, Repeat, Split}
use Rattle.book.specs.declared.line.Line.{Line}
use Rattle.book.specs.Checks.{guards_of, known, ok_known, ok_lone, part_rules, ok_body, ok_from, last_free, ok_lines}
use Rattle.book.specs.Lines.{Known, Lone, BodyOk, Checked}
use Rattle.book.proofs.Scans.{last_unguarded}

known_tells : (ts : List ℕ) → ok_known ts ≡ true → Known ts
known_tells [] e = tt
known_tells (t ∷ ts) e = (ltb-true t most_lines (and_parts (known t) (ok_known ts) e).0, known_tells ts (and_parts (known t) (ok_known ts) e).1)

lone_tells : (i : ℕ) (ts : List ℕ) → ok_lone i ts ≡ true → Lone i ts
lone_tells i [] e = tt
lone_tells i (t ∷ []) e = ltb-true i t e
lone_tells i (t ∷ u ∷ ts) e = tt

further : (i t : ℕ) → ok_body i (Use t) ≡ true → (i < t) × (t < most_lines)
further i t e = (ltb-true i t (and_parts (ltb i t) (ltb t most_lines) e).0, ltb-true t most_lines (and_parts (ltb i t) (ltb t most_lines) e).1)

body_tells : (i : ℕ) (b : Body) → ok_body i b ≡ true → BodyOk i b
body_tells i (Make m) e = ltb-true m 16 e
body_tells i (Use t) e = further i t e
body_tells i (Repeat a n t) e = further i t e
body_tells i (Split a p ts) e = (
  known_tells (part_rules p ts) (and_parts (ok_known (part_rules p ts)) (ok_lone i (part_rules p ts)) e).0,
  lone_tells i (part_rules p ts) (and_parts (ok_known (part_rules p ts)) (ok_lone i (part_rules p ts)) e).1,
)

from_tells : (ls : List Line) (i k : ℕ) (l : Line) → ok_from i ls ≡ true → k < length ls → l ≡ get_or ls k l → BodyOk (i + k) l.body
from_tells [] i k l e h f = absurd (omega arith)
from_tells (m ∷ ls) i zero l e h f =
    let z : i ≡ i + 0 = omega arith in
    subst (λ j. BodyOk j l.body) z (subst (λ x. BodyOk i x.body) (sym f) (body_tells i m.body (and_parts (ok_body i m.body) (ok_from (i + 1) ls) e).0))
from_tells (m ∷ ls) i (suc k) l e h f =
    let z : i + 1 + k ≡ i + suc k = omega arith in
    subst (λ j. BodyOk j l.body) z (from_tells ls (i + 1) k l (and_parts (ok_body i m.body) (ok_from (i + 1) ls) e).1 (omega arith) f)

pub lines_checked : (ls : List Line) → length ls ≡ most_lines → ok_lines ls ≡ true → Checked ls
lines_checked ls n e = record {
  size = n;
  body = λ i l h f. let z : 0 + i ≡ i = omega arith in subst (λ j. BodyOk j l.body) z (from_tells ls 0 i l (and_parts (ok_from 0 ls) (last_free ls) e).0 (omega (arith, n)) f);
  last = λ l f. ap (λ x. length (guards_of x)) f ∙ last_unguarded ls 63 l n (and_parts (ok_from 0 ls) (last_free ls) e).1;
}
