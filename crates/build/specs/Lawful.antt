-- The laws over any list of calls.
use Rattle.std.specs.Prelude.{◌≡◌, ℕ, ◌+◌, ◌*◌, ◌≤◌, Bool, List, [], ◌∷◌, length, replicate, IfOk, Ok}
use Rattle.geometry.specs.declared.block.Block.{Block}
use Rattle.geometry.specs.declared.cell.Cell.{Cell}
use Rattle.geometry.specs.declared.scope.Scope.{Scope}
use Rattle.rows.specs.declared.parts.Parts as rows
use Rattle.rows.specs.declared.tile.Tile.{Tile}
use Rattle.rows.specs.Rows.{sizes, parts_of, split_row, repeat_row, tiles, tile_size}
use Rattle.rows.specs.Laws as row
use Rattle.book.specs.declared.line.Line.{Line}
use Rattle.book.specs.Lines.{Checked}
use Rattle.sinks.specs.Meaning.{Parts, Empty, over_materials}
use Rattle.sinks.specs.Laws.{count_in, volume_in}
use Rattle.derivation.specs.Derive.{Derived}
use Rattle.derivation.specs.Laws.{scope_volume, scopes_in}
use Rattle.build.specs.declared.build.Waiting.{Waiting}
use Rattle.build.specs.History.{Event, ran, waited, closed, drained, counted, measured, looked, answered, History}

-- the count and the volume of what waits, exactly
abbrev pub Exactly : List Scope → Waiting → Type 0
Exactly ws r = (r.count ≡ length ws) × (r.volume ≡ scope_volume ws)

-- what the latest call answered, where the blocks were made and the scopes wait
abbrev pub Answers : ℕ → List Scope → List Block → List Scope → List Event → Type 0
Answers edge lots bs ws [] = Unit {0}
Answers edge lots bs ws (ran budget n e ∷ es) = n ≤ budget
Answers edge lots bs ws (waited r ∷ es) = Exactly ws r
Answers edge lots bs ws (closed r ∷ es) = Exactly ws r.waiting × (r.steps ≡ answered es)
Answers edge lots bs ws (drained r ∷ es) = Unit {0}
Answers edge lots bs ws (counted m r ∷ es) = IfOk r (λ n. n ≡ count_in bs m)
Answers edge lots bs ws (measured m r ∷ es) = IfOk r (λ n. n ≡ volume_in bs m)
Answers edge lots bs ws (looked d r ∷ es) = IfOk r (λ n. n + scopes_in edge d ws ≡ scopes_in edge d lots)

-- what holds of the events so far, the waiting scopes, the steps that the build counts, and what the sink means:
-- the steps answered can be made from the lots and leave just these scopes; each material's count and volume are those
-- of the blocks made; received and waiting volume are the lots' volume, in every cell and in all; the steps stay within
-- 128 for each cubic millimetre of the lots, and are all counted; the latest answer is the right one
pub record Lawful (edge : ℕ) (ls : List Line) (lots : List Scope) (es : List Event) (ws : List Scope) (c : ℕ) (p : Parts) : Type 0 where
  pub blocks : List Block
  pub derived : Derived ls lots (answered es) blocks ws
  pub counts : (m : ℕ) → p.count m ≡ count_in blocks m
  pub volumes : (m : ℕ) → p.volume m ≡ volume_in blocks m
  pub cells : (d : Cell) → p.cell d + scopes_in edge d ws ≡ scopes_in edge d lots
  pub whole : over_materials p.volume + scope_volume ws ≡ scope_volume lots
  pub bound : answered es ≤ 128 * scope_volume lots
  pub all : c ≡ answered es
  pub latest : Answers edge lots blocks ws es

-- rows close and keep their bound, of whatever body and length
pub record RowsClose : Type 0 where
  pub splits : (L : ℕ) (p : rows.Parts) (xs : List ℕ) → split_row L (sizes (parts_of p)) ≡ Ok xs → row.Lawful L (sizes (parts_of p)) xs
  pub repeats : (L : ℕ) (t : Tile) (xs : List ℕ) → repeat_row L t.length.0 ≡ Ok xs → row.Lawful L (replicate (tiles L t.length.0) tile_size) xs

-- for a sink of any meaning, any checked lines, at most 16 lots, any stack and any list of calls
pub record LawsHold {S : Type 0} (edge : ℕ) (parts : S → Parts) (took : S → Block → S → Type 0) (kept : S → S → Type 0) (text : S → List ℕ) : Type 0 where
  pub calls : (ls : List Line) (cap : ℕ) (lots : List Scope) (start : S) → Checked ls → length lots ≤ 16 → Empty (parts start)
      → (es : List Event) (o : Bool) (ws : List Scope) (c : ℕ) (s : S) → History edge parts took kept text ls cap lots start es o ws c s
      → Lawful edge ls lots es ws c (parts s)
  pub rows : RowsClose
