-- One run from open to close.
use Rattle.std.specs.Prelude.{ℕ, List, [], ◌∷◌}
use Rattle.geometry.specs.declared.block.Block.{Block}
use Rattle.geometry.specs.declared.scope.Scope.{Scope}
use Rattle.book.specs.declared.line.Line.{Line}
use Rattle.sinks.specs.Meaning.{Parts, Empty}
use Rattle.steps.specs.Acting.{Ran}
use Rattle.build.specs.declared.sheet.Sheet.{Sheet}
use Rattle.build.specs.Builds.{Tells}
use Rattle.build.specs.History.{ran, closed}
use Rattle.build.specs.Lawful.{Lawful}

-- the run of the lots is told with what waited at the close; beside a sink that was empty the laws hold at the end
pub record CutsSheet {S : Type 0} (edge : ℕ) (parts : S → Parts) (took : S → Block → S → Type 0) (kept : S → S → Type 0)
    (ls : List Line) (lots : List Scope) (cap : ℕ) (x y : S) (budget : ℕ) (r : Sheet) : Type 0 where
  pub waiting : List Scope
  pub run : Ran edge parts took kept ls lots waiting cap x y budget r.outcome.steps r.outcome.ending
  pub told : Tells waiting r.closed.waiting
  pub laws : Empty (parts x) → Lawful edge ls lots (closed r.closed ∷ ran budget r.outcome.steps r.outcome.ending ∷ []) waiting r.closed.steps (parts y)
