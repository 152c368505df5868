-- What is wrong with a book as a whole.
use Rattle.rules.specs.declared.rule_book.Book.{Book}
use Rattle.forms.specs.Told.{guards_of}
use Rattle.rows.specs.Rows.{parts_of}
use Rattle.std.specs.Prelude.{◌≡◌, ℕ, ◌+◌, ◌<◌, Bool, true, cond, not, ◌&&◌, List, [], ◌∷◌, length, drop, Some, None, codes, Option, ◌==◌, nat_lt, slice_index_or}
use Rattle.std.specs.Option.{option_map}
use Rattle.std.specs.List.{AllByRecursion, position}
use Rattle.std.specs.Str.{bytes_eq}
use Rattle.text.specs.Findings.{or_else}
use Rattle.text.specs.declared.placed.Placed.{Placed}
use Rattle.judge.specs.declared.faults.Fault.{Fault}
use Rattle.judge.specs.declared.faults.Fault.TheVariants.{LastLineGuarded, UnknownName, NotFurtherDown}
use Rattle.forms.specs.Told.{Name, bytes_of, used_by}
use Rattle.forms.specs.declared.rule.RuleLine.{RuleLine}
use Rattle.forms.specs.declared.shape.Shape.{Shape}
use Rattle.forms.specs.declared.shape.Shape.TheVariants.{Make, Use, Repeat, Split}
use Rattle.book_check.specs.declared.kind.Kind.{Kind}
use Rattle.book_check.specs.declared.kind.Kind.TheVariants.{Material, Below, Anywhere}

-- the index of the first name with the bytes w
abbrev pub first_named : List ℕ → List Name → Option ℕ
first_named w ns = position (λ n. bytes_eq (bytes_of n) w) ns

-- an index below n, if any
abbrev pub Under : ℕ → Option ℕ → Type 0
Under n None = Unit {0}
Under n (Some i) = i < n

-- the number of a material: 0 for void, else from 1 on in the order of the declarations
abbrev pub material_number : List Name → List ℕ → Option ℕ
material_number ms w = cond (bytes_eq w (codes "void")) (Some 0) (option_map (λ i. i + 1) (first_named w ms))

-- where the names that a body uses are looked for; a lone part takes the whole scope, like a use
abbrev pub kind_of : Shape → Kind
kind_of Make = Material
kind_of Use = Below
kind_of (Repeat a t) = Below
kind_of (Split a p) = cond (length (parts_of p) == 1) Below Anywhere

-- what a name stands for: the number of a material, or the index of the first line of a rule
abbrev pub meaning : Book → Kind → List ℕ → Option ℕ
meaning ps Material w = material_number ps.materials w
meaning ps Below w = first_named w ps.names
meaning ps Anywhere w = first_named w ps.names

-- a fault at the place of a name
abbrev pub fault_at : Fault → Name → Placed Fault
fault_at f n = record { value = f; line = n.line; column = n.column }

-- a name that line i uses must have a meaning, and one that must begin further down does
abbrev pub meant_fault : ℕ → Kind → Name → Option ℕ → Option (Placed Fault)
meant_fault i k n None = Some (fault_at UnknownName n)
meant_fault i Material n (Some j) = None
meant_fault i Below n (Some j) = cond (nat_lt i j) None (Some (fault_at NotFurtherDown n))
meant_fault i Anywhere n (Some j) = None

-- the same by the name alone
abbrev pub name_fault : Book → ℕ → Kind → Name → Option (Placed Fault)
name_fault ps i k n = meant_fault i k n (meaning ps k (bytes_of n))

-- the first fault of the names that line i uses
abbrev pub used_fault : Book → ℕ → Kind → List Name → Option (Placed Fault)
used_fault ps i k [] = None
used_fault ps i k (n ∷ ns) = or_else (name_fault ps i k n) (used_fault ps i k ns)

-- a rule w ends where these names go on: the next is another, or there is none
abbrev pub ends : List ℕ → List Name → Bool
ends w [] = true
ends w (n ∷ ns) = not (bytes_eq (bytes_of n) w)

-- a line with the name n before the names ns must have no guard if it is the last of its rule
abbrev pub guard_fault : Name → List Name → RuleLine → Option (Placed Fault)
guard_fault n ns r = cond (nat_lt 0 (length (guards_of r)) && ends (bytes_of n) ns) (Some (fault_at LastLineGuarded n)) None

-- the first fault of line i, which has the name n before the names ns
abbrev pub line_fault : Book → ℕ → Name → List Name → RuleLine → Option (Placed Fault)
line_fault ps i n ns r = or_else (guard_fault n ns r) (used_fault ps i (kind_of r.body) (used_by ps.uses r))

-- the first fault of lines with their names, from line i on
abbrev pub lines_fault : Book → ℕ → List Name → List RuleLine → Option (Placed Fault)
lines_fault ps i [] rs = None
lines_fault ps i (n ∷ ns) [] = None
lines_fault ps i (n ∷ ns) (r ∷ rs) = or_else (line_fault ps i n ns r) (lines_fault ps (i + 1) ns rs)

-- the first fault of a book
abbrev pub book_fault : Book → Option (Placed Fault)
book_fault ps = lines_fault ps 0 ps.names ps.lines

-- line i may use a name: it has a meaning, and one that must begin further down does
abbrev pub MayUse : Book → ℕ → Kind → Name → Type 0
MayUse ps i k n = (j : ℕ) × (meaning ps k (bytes_of n) ≡ Some j) × (k ≡ Below → i < j)

-- line i is in order: it has no guard if it is the last of its rule, and it may use each of its names
pub record InOrder (ps : Book) (i : ℕ) (n : Name) (ns : List Name) (r : RuleLine) : Type 0 where
  pub free : ends (bytes_of n) ns ≡ true → length (guards_of r) ≡ 0
  pub uses : AllByRecursion (MayUse ps i (kind_of r.body)) (used_by ps.uses r)

-- all lines that have a name are in order
abbrev pub AllInOrder : Book → Type 0
AllInOrder ps =
    (i : ℕ) (n : Name) (r : RuleLine) → i < length ps.names → i < length ps.lines
    → InOrder ps i (slice_index_or ps.names i n) (drop (i + 1) ps.names) (slice_index_or ps.lines i r)

-- the fault of line i
abbrev pub fault_of : Book → ℕ → Name → RuleLine → Option (Placed Fault)
fault_of ps i n r = line_fault ps i (slice_index_or ps.names i n) (drop (i + 1) ps.names) (slice_index_or ps.lines i r)

-- in plain words: some line has this fault and no line before it has any; or all lines are in order
abbrev pub FirstFault : Book → Option (Placed Fault) → Type 0
FirstFault ps (Some p) =
    (i : ℕ) × (i < length ps.names) × (i < length ps.lines) × ((n : Name) (r : RuleLine) → fault_of ps i n r ≡ Some p)
    × ((k : ℕ) (n : Name) (r : RuleLine) → k < i → fault_of ps k n r ≡ None)
FirstFault ps None = AllInOrder ps
