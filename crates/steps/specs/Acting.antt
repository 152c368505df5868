-- What a step does to the waiting scopes and to the sink, and why it is refused.
use Rattle.std.specs.Prelude.{◌≡◌, ℕ, ◌<◌, ◌≤◌, List, [], ◌∷◌, ◌++◌, length, drop, Ok, Err, Result}
use Rattle.geometry.specs.declared.scope.Scope.{Scope}
use Rattle.geometry.specs.declared.block.Block.{Block}
use Rattle.rows.specs.Rows.{sizes, parts_of, split_row, repeat_row}
use Rattle.book.specs.declared.body.Body.{Body}
use Rattle.book.specs.declared.body.Body.TheVariants.{Make, Use, Repeat, Split}
use Rattle.book.specs.declared.line.Line.{Line}
use Rattle.book.specs.Applying.{Applies}
use Rattle.sinks.specs.Meaning.{Parts, Judged, over_materials, Taking, Stays, Chain}
use Rattle.derivation.specs.Derive.{length_on, block_of, Does, Derived}
use Rattle.steps.specs.declared.stop.Reason.{Reason}
use Rattle.steps.specs.declared.stop.Reason.TheVariants as reason
use Rattle.steps.specs.declared.stop.Stop.{Stop}
use Rattle.steps.specs.declared.stop.Ending.{Ending}
use Rattle.steps.specs.declared.stop.Ending.TheVariants as ending
use Rattle.steps.specs.Laying.{NoRow}

-- why the body does nothing, where k of cap entries are held and the sink means p: the sink refuses the block, there
-- is no row, or entries lack for it
abbrev pub Because : Body → Scope → ℕ → ℕ → Parts → Reason → Type 0
Because (Make m) s cap k p (reason.Row e b n) = ⊥
Because (Make m) s cap k p (reason.Full b n) = ⊥
Because (Make m) s cap k p (reason.Sink r) = Judged (over_materials p.volume) (p.room (block_of s m)) (block_of s m) (Err r)
Because (Use r) s cap k p w = ⊥
Because (Repeat a n r) s cap k p w = NoRow a (length_on a s) (repeat_row (length_on a s) n.length.0) cap k w
Because (Split a q rs) s cap k p w = NoRow a (length_on a s) (split_row (length_on a s) (sizes (parts_of q))) cap k w

-- the stop that the next step gives
pub record Halts (ls : List Line) (cap : ℕ) (ws : List Scope) (p : Parts) (x : Stop) : Type 0 where
  pub rest : List Scope
  pub top : ws ≡ x.scope ∷ rest
  pub index : ℕ
  pub line : Line
  pub applies : Applies ls x.scope.rule x.scope.cuboid index line
  pub number : x.line ≡ line.number
  pub because : Because line.body x.scope cap (length ws) p x.reason

-- why a run ended: nothing waits; something waits and the budget is spent; or the next step is refused
abbrev pub Ends : Ending → List Line → List Scope → ℕ → Parts → ℕ → ℕ → Type 0
Ends ending.Done ls ws cap p n budget = ws ≡ []
Ends ending.Spent ls ws cap p n budget = (0 < length ws) × (n ≡ budget)
Ends (ending.Stopped x) ls ws cap p n budget = (n < budget) × Halts ls cap ws p x

module _ {S : Type 0} (edge : ℕ) (parts : S → Parts) (took : S → Block → S → Type 0) (kept : S → S → Type 0) where
  -- what was made of the scope s and what is left of it; the sink took the blocks
  pub record Acted (b : Body) (s : Scope) (first last : List Scope) (x y : S) : Type 0 where
    pub blocks : List Block
    pub scopes : List Scope
    pub does : Does b s blocks scopes
    pub left : last ≡ scopes ++ drop 1 first
    pub taken : Chain (Taking edge parts took) x blocks y

  abbrev pub Acts : Body → Scope → List Scope → List Scope → ℕ → S → S → Result (Unit {0}) Reason → Type 0
  Acts b s first last cap x y (Ok u) = Acted b s first last x y
  Acts b s first last cap x y (Err w) = (last ≡ first) × Stays parts kept x y × Because b s cap (length first) (parts x) w

  -- what one step did
  pub record Moved (ls : List Line) (first last : List Scope) (x y : S) : Type 0 where
    pub blocks : List Block
    pub derived : Derived ls first 1 blocks last
    pub taken : Chain (Taking edge parts took) x blocks y

  -- one step was made, or it was refused and nothing is altered
  abbrev pub Stepped : List Line → List Scope → List Scope → ℕ → S → S → Result (Unit {0}) Stop → Type 0
  Stepped ls first last cap x y (Ok u) = Moved ls first last x y
  Stepped ls first last cap x y (Err stop) = (last ≡ first) × Stays parts kept x y × Halts ls cap first (parts x) stop

  -- n steps were made, within the budget: they are steps of the derivation, the sink took just the blocks made, one
  -- after another in their order, and nothing after them; and the run ended as it had to
  pub record Ran (ls : List Line) (first last : List Scope) (cap : ℕ) (x y : S) (budget n : ℕ) (e : Ending) : Type 0 where
    pub blocks : List Block
    pub derived : Derived ls first n blocks last
    pub through : S
    pub taken : Chain (Taking edge parts took) x blocks through
    pub stays : Stays parts kept through y
    pub within : n ≤ budget
    pub ended : Ends e ls last cap (parts y) n budget
