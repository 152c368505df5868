-- Filling a table, and why its lines pass.
use Rattle.rules.specs.declared.rule_book.Book.{Book}
use Rattle.book.specs.Checks.{guards_of as line_guards}
use Rattle.rows.specs.Rows.{parts_of}
use Rattle.std.proofs.Common.{◌≡◌, ℕ, suc, ◌+◌, ◌<◌, true, cond, ◌&&◌, eqb, ltb, List, [], ◌∷◌, ◌++◌, map, length, get_or, take, drop, set, Some, None, sym, refl, ap, ◌∙◌, subst, ⊎_elim, arith}
use Rattle.std.specs.List.{AllByRecursion}
use Rattle.std.proofs.lemmas.List.{get_or_default, get_or-set_same, get_or-set_other, length-map, take_more, take_more_set, map_push, drop_all}
use Rattle.std.proofs.lemmas.Bool.{eqb-true, eq-eqb, lt-ltb, and_from, cases_lt, cases_eq}
use Rattle.geometry.specs.Limits.{most_lines}
use Rattle.book.specs.Checks.{ok_known, ok_lone, part_rules, ok_body, ok_from, ok_lines}
use Rattle.book.specs.declared.body.Body.{Body}
use Rattle.book.specs.declared.body.Body.TheVariants.{Make, Use, Repeat, Split}
use Rattle.book.specs.declared.line.Line.{Line}
use Rattle.book.proofs.Scans.{last_is_lem}
use Rattle.forms.specs.Told.{Name, bytes_of, uses_of, used_by}
use Rattle.forms.specs.declared.rule.RuleLine.{RuleLine}
use Rattle.book_check.specs.declared.kind.Kind.{Kind}
use Rattle.book_check.specs.declared.kind.Kind.TheVariants.{Material, Below, Anywhere}
use Rattle.book_check.specs.Faults.{kind_of, meaning, used_fault, ends}
use Rattle.book_check.specs.Resolved.{meanings, Meant, target_of, shape_of, targets_of, LineOf, Resolved}
use Rattle.book_check.proofs.Clears.{Accepted, neither, line_clear, line_whole, Fine, used_meant, fine_small, targets_fine, free_at_end}

-- one number more
pub targets_more : (ps : Book) (k : Kind) (ns : List Name) (ts : List ℕ) (i : ℕ) (d : Name) (t : ℕ) → i < length ns → i < length ts
    → take i ts ≡ map target_of (meanings ps k (take i ns)) → t ≡ target_of (meaning ps k (bytes_of (get_or ns i d)))
    → take (i + 1) (set ts i t) ≡ map target_of (meanings ps k (take (i + 1) ns))
targets_more ps k ns ts i d t h g e f =
    take_more_set ts i t g
    ∙ ap (λ xs. xs ++ t ∷ []) e
    ∙ ap (λ x. map target_of (meanings ps k (take i ns)) ++ x ∷ []) f
    ∙ sym (map_push target_of (meanings ps k (take i ns)) (meaning ps k (bytes_of (get_or ns i d))))
    ∙ ap (map target_of) (sym (map_push (λ n. meaning ps k (bytes_of n)) (take i ns) (get_or ns i d)))
    ∙ ap (λ xs. map target_of (meanings ps k xs)) (sym (take_more ns i d h))

-- one line more
pub own_more : (ps : Book) (ns : List Name) (rs : List RuleLine) (ls : List Line) (i : ℕ) (n : Name) (r : RuleLine) (l : Line) → i < length ns → i < length rs → i < length ls
    → ((k : ℕ) (m : Name) (q : RuleLine) (d : Line) → k < i → LineOf ps (get_or ns k m) (get_or rs k q) (get_or ls k d))
    → r ≡ get_or rs i r → LineOf ps (get_or ns i n) r l
    → (k : ℕ) (m : Name) (q : RuleLine) (d : Line) → k < i + 1 → LineOf ps (get_or ns k m) (get_or rs k q) (get_or (set ls i l) k d)
own_more ps ns rs ls i n r l h g f old e new k m q d p =
    ⊎_elim
    (λ z. subst (λ j. LineOf ps (get_or ns j m) (get_or rs j q) (get_or (set ls i l) j d)) (sym z)
    (subst (λ x. LineOf ps (get_or ns i m) (get_or rs i q) x) (sym (get_or-set_same ls i l d f))
    (subst (λ x. LineOf ps (get_or ns i m) x l) (e ∙ get_or_default rs i r q g)
    (subst (λ x. LineOf ps x r l) (get_or_default ns i n m h) new))))
    (λ z. subst (λ x. LineOf ps (get_or ns k m) (get_or rs k q) x) (sym (get_or-set_other ls i k l d z)) (old k m q d (omega arith)))
    (cases_eq k i)

-- an element of a list that has one
pub some_of : {X : Type 0} (xs : List X) (i : ℕ) → i < length xs → X
some_of [] i h = absurd (omega arith)
some_of (x ∷ xs) i h = x

pub line_meant : (ps : Book) → Accepted ps → (i : ℕ) (r : RuleLine) → i < length ps.lines → r ≡ get_or ps.lines i r → Meant ps r
line_meant ps a i r h e =
    let n = some_of ps.names i (omega (arith, a.paired)) in
    let q = get_or ps.lines i r in
    subst (Meant ps) (sym e) (used_meant ps a i (kind_of q.body) (used_by ps.uses q) (neither _ _ (line_clear ps a i n r h)).1)

all_known : (ps : Book) → Accepted ps → (i : ℕ) (k : Kind) (ts : List ℕ) → AllByRecursion (Fine ps i k) ts → ok_known ts ≡ true
all_known ps a i k [] h = refl
all_known ps a i k (t ∷ ts) h = and_from _ _ (lt-ltb t most_lines (fine_small ps a i k t h.0)) (all_known ps a i k ts h.1)

lone_below : (ps : Book) (i n : ℕ) (ts : List ℕ) → length ts ≡ n → AllByRecursion (Fine ps i (cond (eqb n 1) Below Anywhere)) ts → ok_lone i ts ≡ true
lone_below ps i n [] e h = refl
lone_below ps i n (t ∷ []) e h =
    let z : n ≡ 1 = omega arith in
    lt-ltb i t (subst (λ m. AllByRecursion (Fine ps i (cond (eqb m 1) Below Anywhere)) (t ∷ [])) z h).0.0
lone_below ps i n (t ∷ u ∷ ts) e h = refl

below_passes : (ps : Book) → Accepted ps → (i t : ℕ) → Fine ps i Below t → (ltb i t && ltb t most_lines) ≡ true
below_passes ps a i t h = and_from _ _ (lt-ltb i t h.0) (lt-ltb t most_lines (fine_small ps a i Below t h))

-- the body of line i passes
body_passes : (ps : Book) → Accepted ps → (i : ℕ) (b : Body) (ns : List Name) → used_fault ps i (kind_of (shape_of b)) ns ≡ None → meanings ps (kind_of (shape_of b)) ns ≡ map Some (targets_of b)
    → length ns ≡ uses_of (shape_of b) → ok_body i b ≡ true
body_passes ps a i (Make m) ns e f g = let h = (targets_fine ps i Material ns (m ∷ []) e f).0 in lt-ltb m 16 (omega (arith, a.kinds))
body_passes ps a i (Use t) ns e f g = below_passes ps a i t (targets_fine ps i Below ns (t ∷ []) e f).0
body_passes ps a i (Repeat x n t) ns e f g = below_passes ps a i t (targets_fine ps i Below ns (t ∷ []) e f).0
body_passes ps a i (Split x p ts) ns e f g =
    let k = cond (eqb (length (parts_of p)) 1) Below Anywhere in
    let h = targets_fine ps i k ns (part_rules p ts) e f in
    let s : length (part_rules p ts) ≡ length (parts_of p) =
    sym (length-map (part_rules p ts) Some) ∙ sym (ap length f) ∙ length-map ns (λ n. meaning ps k (bytes_of n)) ∙ g in
    and_from _ _ (all_known ps a i k (part_rules p ts) h) (lone_below ps i (length (parts_of p)) (part_rules p ts) s h)

from_places : (i : ℕ) (ls : List Line) → ((k : ℕ) (d : Line) → k < length ls → ok_body (i + k) (get_or ls k d).body ≡ true) → ok_from i ls ≡ true
from_places i [] h = refl
from_places i (l ∷ ls) h =
    let z : i + 0 ≡ i = omega arith in
    and_from _ _ (subst (λ j. ok_body j l.body ≡ true) z (h 0 l (omega arith)))
    (from_places (i + 1) ls (λ k d p. let y : i + suc k ≡ i + 1 + k = omega arith in subst (λ j. ok_body j (get_or ls k d).body ≡ true) y (h (suc k) d (omega arith))))

own_passes : (ps : Book) → Accepted ps → (i : ℕ) (n : Name) (r : RuleLine) (l : Line) → i < length ps.lines → LineOf ps (get_or ps.names i n) (get_or ps.lines i r) l → ok_body i l.body ≡ true
own_passes ps a i n r l h o =
    let q = get_or ps.lines i r in
    let e = (neither _ _ (line_clear ps a i n r h)).1 in
    let g = eqb-true _ _ (line_whole ps a i r h) in
    body_passes ps a i l.body (used_by ps.uses q)
    (subst (λ s. used_fault ps i (kind_of s) (used_by ps.uses q) ≡ None) (sym o.shape) e)
    (subst (λ s. meanings ps (kind_of s) (used_by ps.uses q) ≡ map Some (targets_of l.body)) (sym o.shape) o.targets)
    (g ∙ ap uses_of (sym o.shape))

place_passes : (ps : Book) → Accepted ps → (ls : List Line) → length ls ≡ most_lines → Resolved ps ls → (i : ℕ) (d : Line) → i < length ls → ok_body i (get_or ls i d).body ≡ true
place_passes ps a ls e o i d h =
    ⊎_elim
    (λ p. let n = some_of ps.names i (omega (arith, a.paired)) in
    let r = some_of ps.lines i p in
    own_passes ps a i n r (get_or ls i d) p (o.own i n r d p))
    (λ p. ap (ok_body i) (o.others i d p (omega (arith, e))).void)
    (cases_lt i (length ps.lines))

last_passes_lem : (ps : Book) → Accepted ps → (ls : List Line) → length ls ≡ most_lines → Resolved ps ls → (d : Line) → length (line_guards (get_or ls 63 d)) ≡ 0
last_passes_lem ps a ls e o d =
    ⊎_elim
    (λ p. let n = some_of ps.names 63 (omega (arith, a.paired)) in
    let r = some_of ps.lines 63 p in
    let w = bytes_of (get_or ps.names 63 n) in
    let z : ends w (drop 64 ps.names) ≡ true = ap (ends w) (drop_all 64 ps.names (omega (arith, a.paired, a.few))) in
    ap length (o.own 63 n r d p).guards ∙ free_at_end (get_or ps.names 63 n) (drop 64 ps.names) (get_or ps.lines 63 r) (neither _ _ (line_clear ps a 63 n r p)).0 z)
    (λ p. (o.others 63 d p (omega arith)).free)
    (cases_lt 63 (length ps.lines))

-- the lines of an accepted book pass
pub lines_pass : (ps : Book) → Accepted ps → (ls : List Line) → length ls ≡ most_lines → Resolved ps ls → ok_lines ls ≡ true
lines_pass ps a ls e o =
    let d = some_of ls 63 (omega (arith, e)) in
    and_from _ _ (from_places 0 ls (λ k d h. let z : k ≡ 0 + k = omega arith in subst (λ j. ok_body j (get_or ls k d).body ≡ true) z (place_passes ps a ls e o k d h)))
    (last_is_lem ls 63 d e ∙ eq-eqb _ _ (last_passes_lem ps a ls e o d))
