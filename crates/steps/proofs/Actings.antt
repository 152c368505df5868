-- Rows that are laid, and steps.
use Rattle.std.proofs.Common.{◌≡◌, ℕ, zero, suc, ◌<◌, ◌≤◌, List, [], ◌∷◌, length, take, drop, replicate, IfOk, Ok, Err, Result, sym, refl, ap, ◌∙◌, subst, inl, arith, length-take}
use Rattle.std.proofs.lemmas.List.{length-map, length-replicate, take-replicate}
use Rattle.bounded.proofs.Listed.{listed_few}
use Rattle.geometry.specs.declared.axis.Axis.{Axis}
use Rattle.geometry.specs.declared.scope.Scope.{Scope}
use Rattle.geometry.specs.declared.block.Block.{Block}
use Rattle.geometry.specs.Limits.{most_lines}
use Rattle.geometry.specs.Sums.{sum_of}
use Rattle.rows.specs.declared.size.Size.{Size}
use Rattle.rows.specs.declared.size.Size.TheVariants.{Fix, Float}
use Rattle.rows.specs.declared.parts.Parts as parted
use Rattle.rows.specs.declared.row.Segment.{Segment}
use Rattle.rows.specs.declared.row.Row.{Row}
use Rattle.rows.specs.declared.refusal.RowRefusal.{RowRefusal}
use Rattle.rows.specs.Rows.{sizes, parts_of, split_row, repeat_row, told, told_of, segments_of}
use Rattle.rows.specs.Laws.{Shared, Lawful}
use Rattle.book.specs.declared.body.Body.TheVariants.{Use, Repeat, Split}
use Rattle.book.specs.declared.line.Line.{Line}
use Rattle.book.specs.Checks.{part_rules}
use Rattle.book.specs.Lines.{Known}
use Rattle.book.specs.Applying.{Applies}
use Rattle.sinks.specs.Meaning.{Parts}
use Rattle.rows.specs.declared.tile.Tile.{Tile}
use Rattle.derivation.specs.Derive.{length_on, Goes, Derived, begun, step}
use Rattle.steps.specs.declared.stop.Reason.{Reason}
use Rattle.steps.specs.Laying.{Filling, Cuts, Divides, NoRow, Relabelled}
use Rattle.steps.specs.Acting.{Acts, Acted, Moved, Stepped}
use Rattle.steps.proofs.Mapped.{told_as}

-- a row has a length for each part
shared_length : (R W : ℕ) (ss : List Size) (xs : List ℕ) → Shared R W ss xs → length xs ≡ length ss
shared_length R W [] [] h = refl
shared_length R W [] (x ∷ xs) h = elim h [ ]
shared_length R W (Fix m ∷ ss) [] h = elim h [ ]
shared_length R W (Float w ∷ ss) [] h = elim h [ ]
shared_length R W (Fix m ∷ ss) (x ∷ xs) h = ap suc (shared_length R W ss xs h.1)
shared_length R W (Float w ∷ ss) (x ∷ xs) h = ap suc (shared_length R W ss xs h.1)

told_count : (r : Row) → length (told r) ≡ length (segments_of r)
told_count r = length-map (segments_of r) (λ (g : Segment). g.length.0)

-- the lengths of a row fill the scope
lawful_filling : (L : ℕ) (ss : List Size) (r : Row) (rs : List ℕ) → 1 ≤ L → Lawful L ss (told r) → length rs ≡ length (segments_of r) → Known rs → Filling L (told r) rs
lawful_filling L ss r rs pos l e k = record {
  some = some (told r) l.closes;
  few = omega (arith, told_count r, listed_few r.segments);
  sums = l.closes;
  thick = l.thick;
  rules = e ∙ sym (told_count r);
  known = k;
}
  where
    some : (ns : List ℕ) → sum_of (λ n. n) ns ≡ L → 1 ≤ length ns
    some [] f = omega arith
    some (n ∷ ns) f = omega arith

-- the rules that a split gives its pieces are those of its parts
split_count : (L : ℕ) (p : parted.Parts) (r : Row) → Lawful L (sizes (parts_of p)) (told r) → length (segments_of r) ≡ length (parts_of p)
split_count L p r l = omega (arith, told_count r, shared_length _ _ (sizes (parts_of p)) (told r) l.near, length-map (parts_of p) (λ q. q.size))

pub split_filling : (L : ℕ) (p : parted.Parts) (rs : List ℕ) (row : Result Row RowRefusal) → 1 ≤ L → length rs ≡ 16 → Known (part_rules p rs)
    → IfOk row (λ r. Lawful L (sizes (parts_of p)) (told r)) → IfOk row (λ r. Filling L (told r) (take (length (segments_of r)) rs))
split_filling L p rs (Err x) pos n k l = tt
split_filling L p rs (Ok r) pos n k l =
    let c = split_count L p r l in
    lawful_filling L (sizes (parts_of p)) r (take (length (segments_of r)) rs) pos l
    (omega (arith, length-take (length (segments_of r)) rs, c, listed_few p.parts))
    (subst (λ (m : ℕ). Known (take m rs)) (sym c) k)

pub split_rules : (L : ℕ) (p : parted.Parts) (rs : List ℕ) (row : Result Row RowRefusal) → IfOk row (λ r. Lawful L (sizes (parts_of p)) (told r))
    → (r : Row) → row ≡ Ok r → take (length (segments_of r)) rs ≡ part_rules p rs
split_rules L p rs row l r e =
    ap (λ m. take m rs) (split_count L p r (subst (λ (x : Result Row RowRefusal). IfOk x (λ r. Lawful L (sizes (parts_of p)) (told r))) e l))

known_same : (n t : ℕ) → t < most_lines → Known (replicate n t)
known_same zero t h = tt
known_same (suc n) t h = (h, known_same n t h)

tile_taken : (t : ℕ) (rs : List ℕ) → rs ≡ replicate 64 t → (r : Row) → take (length (segments_of r)) rs ≡ replicate (length (segments_of r)) t
tile_taken t rs e r = ap (take (length (segments_of r))) e ∙ take-replicate (length (segments_of r)) 64 t (omega (arith, listed_few r.segments))

pub tile_filling : (L t : ℕ) (ss : List Size) (rs : List ℕ) (row : Result Row RowRefusal) → 1 ≤ L → t < most_lines → rs ≡ replicate 64 t
    → IfOk row (λ r. Lawful L ss (told r)) → IfOk row (λ r. Filling L (told r) (take (length (segments_of r)) rs))
tile_filling L t ss rs (Err x) pos k e l = tt
tile_filling L t ss rs (Ok r) pos k e l =
    lawful_filling L ss r (take (length (segments_of r)) rs) pos l
    (ap length (tile_taken t rs e r) ∙ length-replicate (length (segments_of r)) t)
    (subst (λ (ts : List ℕ). Known ts) (sym (tile_taken t rs e r)) (known_same (length (segments_of r)) t k))

pub tile_rules : (t : ℕ) (rs : List ℕ) → rs ≡ replicate 64 t → (r : Row) → take (length (segments_of r)) rs ≡ replicate (length (told r)) t
tile_rules t rs e r = tile_taken t rs e r ∙ ap (λ n. replicate n t) (sym (told_count r))

-- what was cut, in the words of the derivation
pub divided : (s : Scope) (a : Axis) (row : Result Row RowRefusal) (rs : List ℕ) (given : Result (List ℕ) RowRefusal) (rules : List ℕ → List ℕ) (first last : List Scope) (cap : ℕ)
    → told_of row ≡ given → ((r : Row) → row ≡ Ok r → take (length (segments_of r)) rs ≡ rules (told r)) → (x : Result (Unit {0}) Reason)
    → Cuts s a row rs first last cap x → Divides s a given rules first last cap x
divided s a row rs given rules first last cap h g (Ok u) (r, e, t) = (t.0, record { lengths = told r; given = sym h ∙ ap told_of e; laid = t.1; follow = t.2 ∙ g r e }, t.3)
divided s a row rs given rules first last cap h g (Err w) (l, n) = (l, subst (λ x. NoRow a (length_on a s) x cap (length first) w) h n)

module _ {S : Type 0} (edge : ℕ) (parts : S → Parts) (took : S → Block → S → Type 0) (kept : S → S → Type 0) where
  pub acts_tile : (a : Axis) (n : Tile) (r : ℕ) (s : Scope) (first last : List Scope) (cap : ℕ) (x : S) (o : Result (Unit {0}) Reason)
      → Divides s a (repeat_row (length_on a s) n.length.0) (λ ns. replicate (length ns) r) first last cap o → Acts edge parts took kept (Repeat a n r) s first last cap x x o
  acts_tile a n r s first last cap x (Ok u) d = record { blocks = []; scopes = d.0; does = (refl, d.1); left = d.2; taken = refl }
  acts_tile a n r s first last cap x (Err w) d = (d.0, (refl, inl refl), d.1)

  pub acts_split : (a : Axis) (p : parted.Parts) (rs : List ℕ) (s : Scope) (first last : List Scope) (cap : ℕ) (x : S) (o : Result (Unit {0}) Reason)
      → Divides s a (split_row (length_on a s) (sizes (parts_of p))) (λ _. part_rules p rs) first last cap o → Acts edge parts took kept (Split a p rs) s first last cap x x o
  acts_split a p rs s first last cap x (Ok u) d = record { blocks = []; scopes = d.0; does = (refl, d.1); left = d.2; taken = refl }
  acts_split a p rs s first last cap x (Err w) d = (d.0, (refl, inl refl), d.1)

  pub acts_use : (r : ℕ) (s : Scope) (first last : List Scope) (cap : ℕ) (x : S) → Relabelled s r first last → Acts edge parts took kept (Use r) s first last cap x x (Ok tt)
  acts_use r s first last cap x d = record { blocks = []; scopes = d.0 ∷ []; does = (refl, (d.0, refl, d.2, d.3)); left = d.1; taken = refl }

  -- one step, of the line that applies
  pub moved : (ls : List Line) (s : Scope) (first last : List Scope) (x y : S) (i : ℕ) (l : Line) → first ≡ s ∷ drop 1 first → Applies ls s.rule s.cuboid i l
      → Acted edge parts took kept l.body s first last x y → Moved edge parts took kept ls first last x y
  moved ls s first last x y i l top h a =
      let g : Goes ls s a.blocks a.scopes = record { index = i; line = l; applies = h; does = a.does } in
      let at : Derived ls first 0 [] (s ∷ drop 1 first) = subst (λ w. Derived ls first 0 [] w) top begun in
      record { blocks = a.blocks; derived = subst (λ w. Derived ls first 1 a.blocks w) (sym a.left) (step at g); taken = a.taken }

  -- one step, or why it is refused
  pub acted_steps : (ls : List Line) (s : Scope) (first last : List Scope) (cap : ℕ) (x y : S) (i : ℕ) (l : Line) → first ≡ s ∷ drop 1 first → Applies ls s.rule s.cuboid i l
      → (o : Result (Unit {0}) Reason) → Acts edge parts took kept l.body s first last cap x y o
      → Stepped edge parts took kept ls first last cap x y (told_as (λ (w : Reason). record { reason = w; line = l.number; scope = s }) o)
  acted_steps ls s first last cap x y i l top h (Ok u) a = moved ls s first last x y i l top h a
  acted_steps ls s first last cap x y i l top h (Err w) a = (
    a.0,
    a.1,
    record {
      rest = drop 1 first;
      top = top;
      index = i;
      line = l;
      applies = h;
      number = refl;
      because = a.2;
    },
  )
