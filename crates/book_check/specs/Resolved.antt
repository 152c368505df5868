-- The table that a book without faults comes to.
use Rattle.rules.specs.Holds.{fits}
use Rattle.rules.specs.declared.rule_book.Book.{Book}
use Rattle.book.specs.Checks.{guards_of as line_guards}
use Rattle.rows.specs.Rows.{parts_of}
use Rattle.std.specs.Prelude.{◌≡◌, ℕ, ◌<◌, ◌≤◌, min, Bool, not, ◌&&◌, List, [], ◌∷◌, map, length, take, is_some, Some, None, Option, slice_index_or}
use Rattle.geometry.specs.Limits.{most_lines}
use Rattle.geometry.specs.declared.cuboid.Cuboid.{Cuboid}
use Rattle.book.specs.Applying.{Applies}
use Rattle.book.specs.declared.body.Body.{Body}
use Rattle.book.specs.declared.body.Body.TheVariants as body
use Rattle.book.specs.declared.line.Line.{Line}
use Rattle.forms.specs.Told.{Name, bytes_of, guards_of, used_by}
use Rattle.forms.specs.declared.rule.RuleLine.{RuleLine}
use Rattle.forms.specs.declared.shape.Shape.{Shape}
use Rattle.forms.specs.declared.shape.Shape.TheVariants.{Make, Use, Repeat, Split}
use Rattle.book_check.specs.declared.kind.Kind.{Kind}
use Rattle.book_check.specs.Faults.{first_named, kind_of, meaning, book_fault}

-- such a book without a fault
abbrev pub accepted : Book → Bool
accepted ps = fits ps && not (is_some (book_fault ps))

-- a body without its numbers
abbrev pub shape_of : Body → Shape
shape_of (body.Make m) = Make
shape_of (body.Use t) = Use
shape_of (body.Repeat a n t) = Repeat a n
shape_of (body.Split a p ts) = Split a p

-- the numbers of a body: of its material, or of the first lines of its rules
abbrev pub targets_of : Body → List ℕ
targets_of (body.Make m) = m ∷ []
targets_of (body.Use t) = t ∷ []
targets_of (body.Repeat a n t) = t ∷ []
targets_of (body.Split a p ts) = take (length (parts_of p)) ts

-- what names of one kind stand for
abbrev pub meanings : Book → Kind → List Name → List (Option ℕ)
meanings ps k ns = map (λ n. meaning ps k (bytes_of n)) ns

-- a meaning as a number of a body holds it: 255 for any that is larger, 0 for none
abbrev pub target_of : Option ℕ → ℕ
target_of None = 0
target_of (Some n) = min n 255

-- every name that a rule line uses has a meaning that a body can hold
abbrev pub Meant : Book → RuleLine → Type 0
Meant ps r = map Some (map target_of (meanings ps (kind_of r.body) (used_by ps.uses r))) ≡ meanings ps (kind_of r.body) (used_by ps.uses r)

-- the largest line number that a line of a table holds
abbrev pub last_number : ℕ
last_number = 4294967295

-- the rule line r with the name n, its names replaced by what they stand for
pub record LineOf (ps : Book) (n : Name) (r : RuleLine) (l : Line) : Type 0 where
  pub guards : line_guards l ≡ guards_of r
  pub number : l.number ≡ min n.line last_number
  pub shape : shape_of l.body ≡ r.body
  pub targets : meanings ps (kind_of r.body) (used_by ps.uses r) ≡ map Some (targets_of l.body)

-- a line that fills a place: no guard, it makes void, and it stands in no line of the file
pub record Filler (l : Line) : Type 0 where
  pub free : length (line_guards l) ≡ 0
  pub void : l.body ≡ body.Make 0
  pub number : l.number ≡ 0

-- the places of the book's lines hold them, all others fillers
pub record Resolved (ps : Book) (ls : List Line) : Type 0 where
  pub own : (i : ℕ) (n : Name) (r : RuleLine) (l : Line) → i < length ps.lines → LineOf ps (slice_index_or ps.names i n) (slice_index_or ps.lines i r) (slice_index_or ls i l)
  pub others : (i : ℕ) (l : Line) → length ps.lines ≤ i → i < most_lines → Filler (slice_index_or ls i l)

-- where a line applies to a scope with the rule w, all lines from the rule's first to that line have the name w
abbrev pub StaysInRule : Book → List Line → Type 0
StaysInRule ps ls =
    (w : List ℕ) (rule : ℕ) (c : Cuboid) (i : ℕ) (l : Line) → first_named w ps.names ≡ Some rule → Applies ls rule c i l
    → (k : ℕ) → rule ≤ k → k ≤ i → (k < length ps.lines) × ((n : Name) → bytes_of (slice_index_or ps.names k n) ≡ w)
