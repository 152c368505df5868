-- The lines of a table, and what is known of them.
use Rattle.std.specs.Prelude.{◌≡◌, ℕ, ◌<◌, List, [], ◌∷◌, length, slice_index_or}
use Rattle.geometry.specs.Limits.{most_lines}
use Rattle.book.specs.declared.body.Body.{Body}
use Rattle.book.specs.declared.body.Body.TheVariants.{Make, Use, Repeat, Split}
use Rattle.book.specs.declared.line.Line.{Line}
use Rattle.book.specs.declared.table.RuleTable.{RuleTable}
use Rattle.book.specs.Checks.{part_rules, guards_of}

abbrev pub lines_of : RuleTable → List Line
lines_of t = t.lines

-- every rule is told by the index of a line
abbrev pub Known : List ℕ → Type 0
Known [] = Unit {0}
Known (t ∷ ts) = (t < most_lines) × Known ts

-- a lone rule stands further down than line i
abbrev pub Lone : ℕ → List ℕ → Type 0
Lone i [] = Unit {0}
Lone i (t ∷ []) = i < t
Lone i (t ∷ u ∷ ts) = Unit {0}

-- what is known of the body of line i
abbrev pub BodyOk : ℕ → Body → Type 0
BodyOk i (Make m) = m < 16
BodyOk i (Use t) = (i < t) × (t < most_lines)
BodyOk i (Repeat a n t) = (i < t) × (t < most_lines)
BodyOk i (Split a p ts) = Known (part_rules p ts) × Lone i (part_rules p ts)

-- what a check has found, place by place
pub record Checked (ls : List Line) : Type 0 where
  pub size : length ls ≡ most_lines
  pub body : (i : ℕ) (l : Line) → i < most_lines → l ≡ slice_index_or ls i l → BodyOk i l.body
  pub last : (l : Line) → l ≡ slice_index_or ls 63 l → length (guards_of l) ≡ 0
