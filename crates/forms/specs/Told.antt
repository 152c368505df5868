-- What the structs of the code say, as forms of the grammar.
use Rattle.std.specs.Prelude.{ℕ, List, [], ◌∷◌, map, length, take, drop, decimal}
use Rattle.std.specs.Borrow.{Bor}
use Rattle.geometry.specs.declared.axis.Axis.{Axis}
use Rattle.geometry.specs.declared.axis.Axis.TheVariants.{X, Y, Z}
use Rattle.rows.specs.Rows.{parts_of}
use Rattle.rows.specs.declared.part.Part.{Part}
use Rattle.rows.specs.declared.size.Size.{Size}
use Rattle.rows.specs.declared.size.Size.TheVariants.{Fix, Float}
use Rattle.text.specs.Tokens.{Lexeme, word}
use Rattle.text.specs.declared.placed.Placed.{Placed}
use Rattle.bounded.specs.Listed.{listed}
use Rattle.book.specs.declared.guard.Guard.{Guard}
use Rattle.grammar.specs.Forms.{Form, x_axis, y_axis, z_axis, guard, fix, float, make, refer, tile, split, rule, lot}
use Rattle.grammar.specs.Forms.{Axis as AxisWord, Guard as GuardForm, Part as PartForm, Body as BodyForm}
use Rattle.forms.specs.declared.lot.LotLine.{LotLine}
use Rattle.forms.specs.declared.rule.RuleLine.{RuleLine}
use Rattle.forms.specs.declared.shape.Shape.{Shape}
use Rattle.forms.specs.declared.shape.Shape.TheVariants.{Make, Use, Repeat, Split}

-- a name with its line and column
abbrev pub Name : Type 0
Name = Placed (Bor (List ℕ))

-- its bytes
abbrev pub bytes_of : Name → List ℕ
bytes_of n = n.value.now

-- a name as it stands in its line
abbrev pub placed_word : Name → Lexeme × ℕ
placed_word n = (word (bytes_of n), n.column)

-- an axis
abbrev pub axis_of : Axis → AxisWord
axis_of X = x_axis
axis_of Y = y_axis
axis_of Z = z_axis

-- numbers are told by their decimals
abbrev pub guard_of : Guard → GuardForm
guard_of g = guard (axis_of g.axis) (decimal g.low.0) (decimal g.high.0)

-- the guards of a rule line
abbrev pub guards_of : RuleLine → List Guard
guards_of r = listed r.guards

-- a length or a weight, with a name
abbrev pub sized_as : Size → List ℕ → PartForm
sized_as (Fix m) w = fix (decimal m.0) w
sized_as (Float k) w = float (decimal k.0) w

-- each part with its name
abbrev pub part_forms : List Part → List Name → List PartForm
part_forms [] ns = []
part_forms (p ∷ ps) [] = []
part_forms (p ∷ ps) (n ∷ ns) = sized_as p.size (bytes_of n) ∷ part_forms ps ns

-- a split; one without a part is never read, and stands for no form
abbrev pub split_of : AxisWord → List PartForm → BodyForm
split_of a [] = make []
split_of a (p ∷ ps) = split a p ps

-- the bytes of the first name
abbrev pub first_of : List Name → List ℕ
first_of [] = []
first_of (n ∷ ns) = bytes_of n

-- a body that uses these names
abbrev pub body_of : Shape → List Name → BodyForm
body_of Make ns = make (first_of ns)
body_of Use ns = refer (first_of ns)
body_of (Repeat a t) ns = tile (axis_of a) (decimal t.length.0) (first_of ns)
body_of (Split a p) ns = split_of (axis_of a) (part_forms (parts_of p) ns)

-- how many names a body uses
abbrev pub uses_of : Shape → ℕ
uses_of Make = 1
uses_of Use = 1
uses_of (Repeat a t) = 1
uses_of (Split a p) = length (parts_of p)

-- the names that a rule line uses, in the book's list of used names
abbrev pub used_by : List Name → RuleLine → List Name
used_by ns r = take (uses_of r.body) (drop r.from ns)

-- a rule line of that name that uses these names
abbrev pub rule_of : Name → RuleLine → List Name → Form
rule_of n r ns = rule (bytes_of n) (map guard_of (guards_of r)) (body_of r.body ns)

-- a lot
abbrev pub lot_of : LotLine → Form
lot_of l =
    lot (decimal l.corner.x.0) (decimal l.corner.y.0) (decimal l.corner.z.0) (decimal l.size.x.0) (decimal l.size.y.0) (decimal l.size.z.0)
    (bytes_of l.name)
