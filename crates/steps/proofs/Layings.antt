-- A row that is laid from its high end down.
use Rattle.std.proofs.Common.{◌≡◌, ℕ, ◌+◌, ◌<◌, ◌≤◌, List, [], ◌∷◌, ◌++◌, map, length, take, Ok, Err, Result, sym, refl, ap, ◌∙◌, subst, arith, length-append}
use Rattle.std.proofs.lemmas.List.{append_assoc, append-nil, length-map, map_push}
use Rattle.std.specs.Result.{result_or}
use Rattle.geometry.specs.declared.axis.Axis.{Axis}
use Rattle.geometry.specs.declared.cuboid.Cuboid.{Cuboid}
use Rattle.geometry.specs.declared.scope.Scope.{Scope}
use Rattle.geometry.specs.Limits.{least, most_lines}
use Rattle.geometry.specs.Sums.{sum_of}
use Rattle.geometry.specs.Boxes.{Piece}
use Rattle.geometry.specs.Laws.{Laid}
use Rattle.geometry.specs.declared.units.Mm.{Mm}
use Rattle.rows.specs.declared.row.Row.{Row}
use Rattle.rows.specs.declared.refusal.RowRefusal.{RowRefusal}
use Rattle.rows.specs.declared.row.Segment.{Segment}
use Rattle.rows.specs.Rows.{lengths_of, told, told_of, segments_of}
use Rattle.rows.specs.Laws.{Thick}
use Rattle.stack.specs.declared.Stack.{Stack}
use Rattle.bounded.specs.declared.full.Full.{Full}
use Rattle.stack.specs.Held.{entries, capacity}
use Rattle.stack.specs.Moves.{Pushed}
use Rattle.stack.proofs.Stacks.{held_length}
use Rattle.book.specs.Lines.{Known}
use Rattle.derivation.specs.Derive.{box_of, rule_of, length_on}
use Rattle.derivation.proofs.Summing.{sum_append}
use Rattle.steps.specs.declared.stop.Reason.TheVariants as reason
use Rattle.steps.specs.Laying.{SameSlice, Lays, Cuts}

-- a push where an entry is free
pub push_lands : (s t : Stack Scope) (x : Scope) (r : Result (Unit {0}) Full) → Pushed s x t r → length (entries s) < capacity s → entries t ≡ x ∷ entries s
push_lands s t x (Ok u) p h = p.1.entries_are
push_lands s t x (Err e) p h = absurd (omega (arith, p.0))

pub push_slice : (s t : Stack Scope) (x : Scope) (r : Result (Unit {0}) Full) → Pushed s x t r → SameSlice s t
push_slice s t x (Ok u) p = (p.1.size, p.1.lender)
push_slice s t x (Err e) p = (p.1.size, p.1.lender)

pub same_slice : (s t u : Stack Scope) → SameSlice s t → SameSlice t u → SameSlice s u
same_slice s t u p q = (q.0 ∙ p.0, q.1 ∙ p.1)

-- a stack holds no more than it has room for
pub entries_fit : (s : Stack Scope) → length (entries s) ≤ capacity s
entries_fit s = omega (arith, held_length s.slots.now s.mark)

-- a length and a rule in the middle
pub thick_mid : (xs ys : List ℕ) (n : ℕ) → Thick (xs ++ (n ∷ ys)) → least ≤ n
thick_mid [] ys n h = h.0
thick_mid (x ∷ xs) ys n h = thick_mid xs ys n h.1

pub known_mid : (xs ys : List ℕ) (r : ℕ) → Known (xs ++ (r ∷ ys)) → r < most_lines
known_mid [] ys r h = h.0
known_mid (x ∷ xs) ys r h = known_mid xs ys r h.1

-- the lengths of one segment more
pub lengths_more : (gs hs : List Segment) (g : Segment) → gs ≡ hs ++ (g ∷ []) → lengths_of gs ≡ lengths_of hs ++ (g.length.0 ∷ [])
lengths_more gs hs g e = ap lengths_of e ∙ map_push (λ (h : Segment). h.length.0) hs g

pub lengths_count : (gs : List Segment) → length (lengths_of gs) ≡ length gs
lengths_count gs = length-map gs (λ (g : Segment). g.length.0)

-- the pieces of some lengths are laid, and stand above the rest; those of the lengths and rules that are left end at `end`
pub record Laying (c : Cuboid) (a : Axis) (ns rs : List ℕ) (rest : List Scope) (left right : List ℕ) (end : ℕ) (held : List Scope) : Type 0 where
  pub ts : List Scope
  pub done : List ℕ
  pub laid : Laid c a end done (map box_of ts)
  pub lengths : ns ≡ left ++ done
  pub rules : rs ≡ right ++ map rule_of ts
  pub stand : held ≡ ts ++ rest
  pub below : end ≡ sum_of (λ n. n) left

module _ (c : Cuboid) (a : Axis) (ns rs : List ℕ) (rest : List Scope) where
  pub lay_none : (end : ℕ) → end ≡ sum_of (λ n. n) ns → Laying c a ns rs rest ns rs end rest
  lay_none end h = record {
    ts = [];
    done = [];
    laid = tt;
    lengths = sym (append-nil ns);
    rules = sym (append-nil rs);
    stand = refl;
    below = h;
  }

  pub lay_more : (left right xs ys : List ℕ) (n r end low : ℕ) (t : Scope) (held : List Scope) → left ≡ xs ++ (n ∷ []) → right ≡ ys ++ (r ∷ [])
      → Laying c a ns rs rest left right end held → end ≡ low + n → Piece c a low n t.cuboid → t.rule ≡ r → Laying c a ns rs rest xs ys low (t ∷ held)
  lay_more left right xs ys n r end low t held e f l h p q = record {
    ts = t ∷ l.ts;
    done = n ∷ l.done;
    laid = (p, subst (λ k. Laid c a k l.done (map box_of l.ts)) h l.laid);
    lengths = l.lengths ∙ ap (λ zs. zs ++ l.done) e ∙ append_assoc xs (n ∷ []) l.done;
    rules = l.rules ∙ ap (λ zs. zs ++ map rule_of l.ts) f ∙ append_assoc ys (r ∷ []) (map rule_of l.ts) ∙ ap (λ k. ys ++ (k ∷ map rule_of l.ts)) (sym q);
    stand = ap (λ ws. t ∷ ws) l.stand;
    below = omega (arith, l.below, h, ap (sum_of (λ k. k)) e, sum_append (λ k. k) xs (n ∷ []));
  }

  -- how many entries are held
  pub lay_length : (left right : List ℕ) (end : ℕ) (held : List Scope) → Laying c a ns rs rest left right end held → length held + length right ≡ length rs + length rest
  lay_length left right end held l =
      omega (arith, ap length l.stand, length-append l.ts rest, ap length l.rules, length-append right (map rule_of l.ts), length-map l.ts rule_of)

  -- the next length is not past what is left
  pub lay_under : (left right xs : List ℕ) (n end : ℕ) (held : List Scope) → left ≡ xs ++ (n ∷ []) → Laying c a ns rs rest left right end held → n ≤ end
  lay_under left right xs n end held e l = omega (arith, l.below, ap (sum_of (λ n. n)) e, sum_append (λ n. n) xs (n ∷ []))

  -- it is thick, and its rule is known
  pub lay_thick : (left right xs : List ℕ) (n end : ℕ) (held : List Scope) → Thick ns → left ≡ xs ++ (n ∷ []) → Laying c a ns rs rest left right end held → least ≤ n
  lay_thick left right xs n end held h e l =
      thick_mid xs l.done n (subst (λ (ms : List ℕ). Thick ms) (l.lengths ∙ ap (λ zs. zs ++ l.done) e ∙ append_assoc xs (n ∷ []) l.done) h)

  pub lay_known : (left right ys : List ℕ) (r end : ℕ) (held : List Scope) → Known rs → right ≡ ys ++ (r ∷ []) → Laying c a ns rs rest left right end held → r < most_lines
  lay_known left right ys r end held h e l =
      known_mid ys (map rule_of l.ts) r (subst (λ (ms : List ℕ). Known ms) (l.rules ∙ ap (λ zs. zs ++ map rule_of l.ts) e ∙ append_assoc ys (r ∷ []) (map rule_of l.ts)) h)

  -- what is left is within the box
  pub lay_within : (left right : List ℕ) (end : ℕ) (held : List Scope) → Laying c a ns rs rest left right end held → end ≤ sum_of (λ n. n) ns
  lay_within left right end held l = omega (arith, l.below, ap (sum_of (λ n. n)) l.lengths, sum_append (λ n. n) left l.done)

-- a row that is laid, or that lacks entries, as it is cut
pub laid_cuts : (s : Scope) (a : Axis) (m : Mm) (row : Result Row RowRefusal) (r : Row) (rs : List ℕ) (first last : List Scope) (cap : ℕ) (o : Result (Unit {0}) Full)
    → row ≡ Ok r → m.0 ≡ length_on a s → Lays first last cap s a (told r) (take (length (segments_of r)) rs) o
    → Cuts s a row rs first last cap (result_or o (Err (reason.Full a m)))
laid_cuts s a m row r rs first last cap (Ok u) e f l = (r, e, l)
laid_cuts s a m row r rs first last cap (Err w) e f l = (l.0, (refl, f, (told r, ap told_of e, l.1)))
