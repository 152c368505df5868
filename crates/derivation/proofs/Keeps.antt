-- The laws of derivations.
use Rattle.std.proofs.Common.{◌≡◌, ℕ, ◌+◌, ◌*◌, ◌<◌, ◌≤◌, Bool, true, false, cond, ltb, List, [], ◌∷◌, map, length, replicate, Ok, Err, Result, sym, ap, ◌∙◌, subst, zero-add, arith}
use native.Mathlib.Nat.{one-le-mul}
use Rattle.geometry.specs.declared.axis.Axis.{Axis}
use Rattle.geometry.specs.declared.cuboid.Cuboid.{Cuboid}
use Rattle.geometry.specs.declared.scope.Scope.{Scope}
use Rattle.geometry.specs.declared.block.Block.{Block}
use Rattle.geometry.specs.Sums.{sum_of}
use Rattle.geometry.specs.Boxes.{span_on, volume_of, shared_with}
use Rattle.geometry.specs.Laws.{Laid}
use Rattle.geometry.proofs.Fills.{pieces_share}
use Rattle.rows.specs.declared.refusal.RowRefusal.{RowRefusal}
use Rattle.rows.specs.declared.refusal.RowRefusal.TheVariants.{TooManyTiles}
use Rattle.rows.specs.Rows.{sizes, parts_of, split_row, repeat_row, tiles, most_tiles, tile_size}
use Rattle.rows.specs.Laws.{Lawful}
use Rattle.rows.proofs.Fills.{parts_sound}
use Rattle.rows.proofs.Tiled.{tiles_sound}
use Rattle.rows.proofs.Lawfuls.{rows_lawful}
use Rattle.book.specs.declared.body.Body.{Body}
use Rattle.book.specs.declared.body.Body.TheVariants.{Make, Use, Repeat, Split}
use Rattle.book.specs.declared.line.Line.{Line}
use Rattle.book.specs.Checks.{part_rules}
use Rattle.book.specs.Lines.{Checked, BodyOk, Lone}
use Rattle.book.specs.Applying.{Applies}
use Rattle.derivation.specs.Derive.{box_of, rule_of, length_on, Cut, Does, Derived, begun, step}
use Rattle.derivation.specs.Laws.{scope_volume, potential, LawsHold}
use Rattle.derivation.proofs.Summing.{sum_append, sum_map}

-- the row of a repeat is that of so many equal parts
pub tiles_lawful : (L N : ℕ) (ns : List ℕ) → repeat_row L N ≡ Ok ns → Lawful L (replicate (tiles L N) tile_size) ns
tiles_lawful L N ns e = go (ltb most_tiles (tiles L N)) e
  where
    go : (b : Bool) → cond b (Err TooManyTiles) (split_row L (replicate (tiles L N) tile_size)) ≡ Ok ns → Lawful L (replicate (tiles L N) tile_size) ns
    go true f = let z : ◌≡◌ {A = ℕ} 0 1 = cc in absurd (omega arith)
    go false f = rows_lawful L (replicate (tiles L N) tile_size) ns (tiles_sound (tiles L N)) f

-- what adds along a row of pieces that fill a box
abbrev Fills : (Cuboid → ℕ) → Type 0
Fills q = (c : Cuboid) (a : Axis) (ns : List ℕ) (ps : List Cuboid) → Laid c a 0 ns ps → sum_of (λ n. n) ns ≡ (span_on a c).size.0 → sum_of q ps ≡ q c

-- what the row closes to
abbrev Closing : Result (List ℕ) RowRefusal → ℕ → Type 0
Closing row L = (ns : List ℕ) → row ≡ Ok ns → sum_of (λ n. n) ns ≡ L

module _ (q : Cuboid → ℕ) (fills : Fills q) where
  cut_keeps : (s : Scope) (a : Axis) (row : Result (List ℕ) RowRefusal) (rules : List ℕ → List ℕ) (ts : List Scope) → Closing row (length_on a s) → Cut s a row rules ts
      → sum_of (λ t. q t.cuboid) ts ≡ q s.cuboid
  cut_keeps s a row rules ts close c =
      sym (sum_map q box_of ts) ∙ fills s.cuboid a c.lengths (map box_of ts) c.laid (close c.lengths c.given)

  does_keep : (b : Body) (s : Scope) (bs : List Block) (ts : List Scope) → Does b s bs ts → sum_of (λ b. q b.cuboid) bs + sum_of (λ t. q t.cuboid) ts ≡ q s.cuboid
  does_keep (Make m) s bs ts d = omega (arith, ap (sum_of (λ b. q b.cuboid)) d.0, ap (sum_of (λ t. q t.cuboid)) d.1)
  does_keep (Use r) s bs ts d = omega (arith, ap (sum_of (λ b. q b.cuboid)) d.0, ap (sum_of (λ t. q t.cuboid)) d.1.1, ap q d.1.2)
  does_keep (Repeat a n r) s bs ts d =
      omega (arith, ap (sum_of (λ b. q b.cuboid)) d.0, cut_keeps s a _ _ ts (λ ns e. (tiles_lawful (length_on a s) n.length.0 ns e).closes) d.1)
  does_keep (Split a p rs) s bs ts d =
      omega (arith, ap (sum_of (λ b. q b.cuboid)) d.0, cut_keeps s a _ _ ts (λ ns e. (rows_lawful (length_on a s) (sizes (parts_of p)) ns (parts_sound (parts_of p)) e).closes) d.1)

  -- whatever adds along rows is kept
  keeps : {ls : List Line} {first last : List Scope} {k : ℕ} {bs : List Block} → Derived ls first k bs last
      → sum_of (λ b. q b.cuboid) bs + sum_of (λ t. q t.cuboid) last ≡ sum_of (λ t. q t.cuboid) first
  keeps begun = zero-add _
  keeps (step {bs = bs} {cs} {s} {ts} {ws} d g) =
      omega (arith, keeps d, does_keep g.line.body s cs ts g.does, sum_append (λ b. q b.cuboid) bs cs, sum_append (λ t. q t.cuboid) ts ws)

pub volume_some : (c : Cuboid) → 1 ≤ volume_of c
volume_some c = one-le-mul (one-le-mul c.x.some c.y.some) c.z.some

potential_is : (s : Scope) → potential s + (64 + s.rule) ≡ 128 * volume_of s.cuboid
unfolding potential
potential_is s = omega (arith, volume_some s.cuboid, s.known)

potentials : (ts : List Scope) → sum_of potential ts + 64 * length ts ≤ 128 * scope_volume ts
potentials [] = omega arith
potentials (t ∷ ts) = omega (arith, potentials ts, potential_is t)

-- a row of one goes on with a rule further down, and a longer one gains
cut_falls : (i : ℕ) (s : Scope) (a : Axis) (row : Result (List ℕ) RowRefusal) (rules : List ℕ → List ℕ) (ts : List Scope) → s.rule ≤ i → Closing row (length_on a s)
    → ((t : ℕ) (ns : List ℕ) → t ∷ [] ≡ rules ns → i < t) → Cut s a row rules ts → 1 + sum_of potential ts ≤ potential s
cut_falls i s a row rules ts from close lone c =
    by_count ts (cut_keeps volume_of (λ c a ns ps laid f. (pieces_share c a ns ps laid f).whole) s a row rules ts close c) c.follow
  where
    by_count : (ts : List Scope) → scope_volume ts ≡ volume_of s.cuboid → map rule_of ts ≡ rules c.lengths → 1 + sum_of potential ts ≤ potential s
    by_count [] v f = omega (arith, volume_some s.cuboid)
    by_count (t ∷ []) v f = omega (arith, potential_is s, potential_is t, v, lone t.rule c.lengths f)
    by_count (t ∷ r ∷ ts) v f = omega (arith, potential_is s, potentials (t ∷ r ∷ ts), v, s.known)

lone_tile : (i r t : ℕ) (ns : List ℕ) → i < r → t ∷ [] ≡ replicate (length ns) r → i < t
lone_tile i r t [] h f = let z : ◌≡◌ {A = ℕ} 0 1 = cc in absurd (omega arith)
lone_tile i r t (n ∷ ns) h f = let z : t ≡ r = cc in omega arith

lone_part : (i t : ℕ) (rs : List ℕ) → Lone i rs → t ∷ [] ≡ rs → i < t
lone_part i t [] k f = let z : ◌≡◌ {A = ℕ} 0 1 = cc in absurd (omega arith)
lone_part i t (r ∷ []) k f = let z : t ≡ r = cc in omega (arith, k)
lone_part i t (r ∷ q ∷ rs) k f = let z : ◌≡◌ {A = ℕ} 0 1 = cc in absurd (omega arith)

does_falls : (i : ℕ) (b : Body) (s : Scope) (bs : List Block) (ts : List Scope) → s.rule ≤ i → BodyOk i b → Does b s bs ts → 1 + sum_of potential ts ≤ potential s
does_falls i (Make m) s bs ts from ok d = omega (arith, ap (sum_of potential) d.1, potential_is s, volume_some s.cuboid, s.known)
does_falls i (Use r) s bs ts from ok d = omega (arith, ap (sum_of potential) d.1.1, potential_is s, potential_is d.1.0, ap volume_of d.1.2, d.1.3, ok.0)
does_falls i (Repeat a n r) s bs ts from ok d =
    cut_falls i s a _ _ ts from (λ ns e. (tiles_lawful (length_on a s) n.length.0 ns e).closes) (λ t ns f. lone_tile i r t ns ok.0 f) d.1
does_falls i (Split a p rs) s bs ts from ok d =
    cut_falls i s a _ _ ts from (λ ns e. (rows_lawful (length_on a s) (sizes (parts_of p)) ns (parts_sound (parts_of p)) e).closes) (λ t ns f. lone_part i t (part_rules p rs) ok.1 f) d.1

module _ (ls : List Line) (ok : Checked ls) where
  pub body_ok : {r i : ℕ} {c : Cuboid} {l : Line} → Applies ls r c i l → BodyOk i l.body
  body_ok {i = i} {l = l} h = ok.body i l (subst (λ n. i < n) ok.size h.there) h.line

  falls : {first last : List Scope} {k : ℕ} {bs : List Block} → Derived ls first k bs last → k + sum_of potential last ≤ sum_of potential first
  falls begun = omega arith
  falls (step {cs = cs} {s = s} {ts} {ws} d g) =
      omega (arith, falls d, does_falls g.index g.line.body s cs ts g.applies.from (body_ok g.applies) g.does, sum_append potential ts ws)

pub laws_hold : LawsHold
laws_hold ls first last k bs ok d = record {
  cells = λ e x. keeps (shared_with e x) (λ c a ns ps laid f. (pieces_share c a ns ps laid f).cells e x) d;
  whole = keeps volume_of (λ c a ns ps laid f. (pieces_share c a ns ps laid f).whole) d;
  falls = falls ls ok d;
  bound = omega (arith, falls ls ok d, potentials first);
}
