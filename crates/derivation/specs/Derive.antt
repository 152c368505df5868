-- The derivation, as if every block were taken and no stack entry lacking.
use Rattle.std.specs.Prelude.{◌≡◌, ℕ, ◌+◌, List, [], ◌∷◌, ◌++◌, map, length, replicate, Ok, Result}
use Rattle.geometry.specs.declared.axis.Axis.{Axis}
use Rattle.geometry.specs.declared.cuboid.Cuboid.{Cuboid}
use Rattle.geometry.specs.declared.scope.Scope.{Scope}
use Rattle.geometry.specs.declared.block.Block.{Block}
use Rattle.geometry.specs.Boxes.{span_on}
use Rattle.geometry.specs.Laws.{Laid}
use Rattle.rows.specs.declared.refusal.RowRefusal.{RowRefusal}
use Rattle.rows.specs.Rows.{sizes, parts_of, split_row, repeat_row}
use Rattle.book.specs.declared.body.Body.{Body}
use Rattle.book.specs.declared.body.Body.TheVariants.{Make, Use, Repeat, Split}
use Rattle.book.specs.declared.line.Line.{Line}
use Rattle.book.specs.Checks.{part_rules}
use Rattle.book.specs.Applying.{Applies}

-- the box and the rule of a scope
abbrev pub box_of : Scope → Cuboid
box_of s = s.cuboid

abbrev pub rule_of : Scope → ℕ
rule_of s = s.rule

-- the length of a scope on an axis
abbrev pub length_on : Axis → Scope → ℕ
length_on a s = (span_on a s.cuboid).size.0

-- the block that a scope becomes
abbrev pub block_of : Scope → ℕ → Block
block_of s m = record { cuboid = s.cuboid; material = m }

-- the row is given, and ts are its scopes along the axis, the lowest first, with the rules that it gives them
pub record Cut (s : Scope) (a : Axis) (row : Result (List ℕ) RowRefusal) (rules : List ℕ → List ℕ) (ts : List Scope) : Type 0 where
  pub lengths : List ℕ
  pub given : row ≡ Ok lengths
  pub laid : Laid s.cuboid a 0 lengths (map box_of ts)
  pub follow : map rule_of ts ≡ rules lengths

-- the body makes these blocks of a scope and leaves these scopes in its place
abbrev pub Does : Body → Scope → List Block → List Scope → Type 0
Does (Make m) s bs ts = (bs ≡ block_of s m ∷ []) × (ts ≡ [])
Does (Use r) s bs ts = (bs ≡ []) × ((t : Scope) × (ts ≡ t ∷ []) × (t.cuboid ≡ s.cuboid) × (t.rule ≡ r))
Does (Repeat a n r) s bs ts = (bs ≡ []) × Cut s a (repeat_row (length_on a s) n.length.0) (λ ns. replicate (length ns) r) ts
Does (Split a p rs) s bs ts = (bs ≡ []) × Cut s a (split_row (length_on a s) (sizes (parts_of p))) (λ _. part_rules p rs) ts

-- a step on the scope s, by the line that applies
pub record Goes (ls : List Line) (s : Scope) (bs : List Block) (ts : List Scope) : Type 0 where
  pub index : ℕ
  pub line : Line
  pub applies : Applies ls s.rule s.cuboid index line
  pub does : Does line.body s bs ts

-- from these scopes, the top first, k steps make the blocks, in order, and leave the last scopes
pub data Derived (ls : List Line) (first : List Scope) : ℕ → List Block → List Scope → Type 0 where
  begun : Derived ls first 0 [] first
  step : {k : ℕ} {bs cs : List Block} {s : Scope} {ts ws : List Scope} → Derived ls first k bs (s ∷ ws) → Goes ls s cs ts
      → Derived ls first (k + 1) (bs ++ cs) (ts ++ ws)
