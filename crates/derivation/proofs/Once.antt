-- The derivation is fixed by the book and the waiting scopes.
use Rattle.std.proofs.Common.{◌≡◌, ℕ, ◌+◌, ◌<◌, ◌≤◌, Bool, true, false, List, [], ◌∷◌, ◌++◌, map, get_or, Ok, Result, sym, refl, ap, ◌∙◌, subst, ⊎_elim, arith}
use mathlib.Core.HLevel.{is_prop→PathP}
use native.Mathlib.Bridge.{le_prop}
use Rattle.std.proofs.lemmas.Bool.{cases_lt}
use Rattle.std.proofs.lemmas.List.{get_or_default}
use Rattle.geometry.specs.declared.span.Span.{Span}
use Rattle.geometry.specs.declared.units.Mm.{Mm}
use Rattle.geometry.specs.declared.axis.Axis.{Axis}
use Rattle.geometry.specs.declared.cuboid.Cuboid.{Cuboid}
use Rattle.geometry.specs.declared.scope.Scope.{Scope}
use Rattle.geometry.specs.declared.block.Block.{Block}
use Rattle.geometry.specs.Limits.{least, site, most_lines}
use Rattle.geometry.specs.Boxes.{with_span}
use Rattle.geometry.specs.Laws.{Laid}
use Rattle.rows.specs.declared.refusal.RowRefusal.{RowRefusal}
use Rattle.book.specs.declared.body.Body.{Body}
use Rattle.book.specs.declared.body.Body.TheVariants.{Make, Use, Repeat, Split}
use Rattle.book.specs.declared.line.Line.{Line}
use Rattle.book.specs.Applying.{Applies, opens_to}
use Rattle.derivation.specs.Derive.{box_of, rule_of, Cut, Does, Goes, Derived, begun, step}
use Rattle.derivation.specs.Laws.{OneWay}

mm_same : (a b : Mm) → a.0 ≡ b.0 → a ≡ b
mm_same a b e = λ i. record { 0 = e i }

-- a struct with ghost fields is fixed by its other fields
span_same : (s t : Span) → s.at ≡ t.at → s.size ≡ t.size → s ≡ t
span_same s t p q = λ i. record {
  at = p i;
  size = q i;
  some = is_prop→PathP (λ j. least ≤ (q j).0) (λ j. le_prop) s.some t.some i;
  inside = is_prop→PathP (λ j. (p j).0 + (q j).0 ≤ site) (λ j. le_prop) s.inside t.inside i;
}

scope_same : (s t : Scope) → s.cuboid ≡ t.cuboid → s.rule ≡ t.rule → s ≡ t
scope_same s t p q = λ i. record { cuboid = p i; rule = q i; known = is_prop→PathP (λ j. q j < most_lines) (λ j. le_prop) s.known t.known i }

head_same : {X : Type 0} {x y : X} {xs ys : List X} → x ∷ xs ≡ y ∷ ys → x ≡ y
head_same e = cc

tail_same : {X : Type 0} {x y : X} {xs ys : List X} → x ∷ xs ≡ y ∷ ys → xs ≡ ys
tail_same e = cc

never_nil : {X A : Type 0} {x : X} {xs : List X} → x ∷ xs ≡ [] → A
never_nil e = let z : ◌≡◌ {A = ℕ} 0 1 = cc in absurd (omega arith)

scopes_same : (ts us : List Scope) → map box_of ts ≡ map box_of us → map rule_of ts ≡ map rule_of us → ts ≡ us
scopes_same [] [] p q = refl
scopes_same [] (u ∷ us) p q = never_nil (sym p)
scopes_same (t ∷ ts) [] p q = never_nil p
scopes_same (t ∷ ts) (u ∷ us) p q =
    let e = scope_same t u (head_same p) (head_same q) in
    let f = scopes_same ts us (tail_same p) (tail_same q) in
    ap (λ x. x ∷ ts) e ∙ ap (λ xs. u ∷ xs) f

laid_same : (c : Cuboid) (a : Axis) (o : ℕ) (ns : List ℕ) (ps qs : List Cuboid) → Laid c a o ns ps → Laid c a o ns qs → ps ≡ qs
laid_same c a o [] [] [] u v = refl
laid_same c a o [] [] (q ∷ qs) u v = elim v [ ]
laid_same c a o [] (p ∷ ps) qs u v = elim u [ ]
laid_same c a o (n ∷ ns) [] qs u v = elim u [ ]
laid_same c a o (n ∷ ns) (p ∷ ps) [] u v = elim v [ ]
laid_same c a o (n ∷ ns) (p ∷ ps) (q ∷ qs) (x, u) (y, v) =
    let s : x.0 ≡ y.0 = span_same x.0 y.0 (mm_same _ _ (x.1.0 ∙ sym y.1.0)) (mm_same _ _ (x.1.1 ∙ sym y.1.1)) in
    let e : p ≡ q = x.2 ∙ ap (λ t. with_span a t c) s ∙ sym y.2 in
    ap (λ x. x ∷ ps) e ∙ ap (λ xs. q ∷ xs) (laid_same c a (o + n) ns ps qs u v)

cut_same : (s : Scope) (a : Axis) (row : Result (List ℕ) RowRefusal) (rules : List ℕ → List ℕ) (ts us : List Scope) → Cut s a row rules ts → Cut s a row rules us → ts ≡ us
cut_same s a row rules ts us c d =
    let o : Ok c.lengths ≡ Ok d.lengths = sym c.given ∙ d.given in
    let e : c.lengths ≡ d.lengths = cc in
    let l : Laid s.cuboid a 0 c.lengths (map box_of us) = subst (λ ns. Laid s.cuboid a 0 ns (map box_of us)) (sym e) d.laid in
    scopes_same ts us (laid_same s.cuboid a 0 c.lengths (map box_of ts) (map box_of us) c.laid l) (c.follow ∙ ap rules e ∙ sym d.follow)

does_same : (b : Body) (s : Scope) (bs cs : List Block) (ts us : List Scope) → Does b s bs ts → Does b s cs us → (bs ≡ cs) × (ts ≡ us)
does_same (Make m) s bs cs ts us d e = (d.0 ∙ sym e.0, d.1 ∙ sym e.1)
does_same (Use r) s bs cs ts us d e =
    let t : d.1.0 ≡ e.1.0 = scope_same d.1.0 e.1.0 (d.1.2 ∙ sym e.1.2) (d.1.3 ∙ sym e.1.3) in
    (d.0 ∙ sym e.0, d.1.1 ∙ ap (λ x. x ∷ []) t ∙ sym e.1.1)
does_same (Repeat a n r) s bs cs ts us d e = (d.0 ∙ sym e.0, cut_same s a _ _ ts us d.1 e.1)
does_same (Split a p rs) s bs cs ts us d e = (d.0 ∙ sym e.0, cut_same s a _ _ ts us d.1 e.1)

never : {A : Type 0} (b : Bool) → b ≡ true → b ≡ false → A
never b p q = let z : ◌≡◌ {A = ℕ} 0 1 = cc in absurd (omega arith)

-- the line that applies is one
module _ {ls : List Line} {r : ℕ} {c : Cuboid} where
  index_least : {i j : ℕ} {l m : Line} → Applies ls r c i l → Applies ls r c j m → i < j → ⊥
  index_least {i} {j} {l} {m} p q h = never (opens_to c l) p.holding (ap (opens_to c) p.line ∙ q.first i l p.from h)

  index_same : {i j : ℕ} {l m : Line} → Applies ls r c i l → Applies ls r c j m → i ≡ j
  index_same {i} {j} p q = ⊎_elim (λ h. absurd (index_least p q h)) (λ h. ⊎_elim (λ k. absurd (index_least q p k)) (λ k. omega arith) (cases_lt j i)) (cases_lt i j)

  line_same : {i j : ℕ} {l m : Line} → Applies ls r c i l → Applies ls r c j m → l ≡ m
  line_same {i} {j} {l} {m} p q = p.line ∙ get_or_default ls i l m p.there ∙ ap (λ k. get_or ls k m) (index_same p q) ∙ sym q.line

goes_same : {ls : List Line} {s : Scope} {bs cs : List Block} {ts us : List Scope} → Goes ls s bs ts → Goes ls s cs us → (bs ≡ cs) × (ts ≡ us)
goes_same {s = s} {bs} {cs} {ts} {us} g h =
    does_same g.line.body s bs cs ts us g.does (subst (λ l. Does l.body s cs us) (sym (line_same g.applies h.applies)) h.does)

once : (ls : List Line) (first : List Scope) {last last' : List Scope} {k j : ℕ} {bs bs' : List Block} → Derived ls first k bs last → Derived ls first j bs' last' → k ≡ j → (bs ≡ bs') × (last ≡ last')
once ls first begun begun e = (refl, refl)
once ls first begun (step d g) e = absurd (omega arith)
once ls first (step d g) begun e = absurd (omega arith)
once ls first (step {bs = bs} {cs = cs} {s = s} {ts = ts} {ws = ws} d g) (step {bs = bs'} {cs = cs'} {s = s'} {ts = ts'} {ws = ws'} d' g') e =
    let h = once ls first d d' (omega arith) in
    let o = goes_same g (subst (λ x. Goes ls x cs' ts') (sym (head_same h.1)) g') in
    (ap (λ x. x ++ cs) h.0 ∙ ap (λ x. bs' ++ x) o.0, ap (λ x. x ++ ws) o.1 ∙ ap (λ x. ts' ++ x) (tail_same h.1))

pub one_way : OneWay
one_way ls first last last' k bs bs' d e = once ls first d e refl
