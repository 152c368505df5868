-- Calls on a build just opened and on its sink, with what they answered, and where they lead.
use Rattle.std.specs.Prelude.{◌≡◌, ℕ, ◌+◌, ◌-◌, ◌^◌, ◌<◌, min, Bool, true, false, List, [], ◌∷◌, Result}
use Rattle.geometry.specs.declared.block.Block.{Block}
use Rattle.geometry.specs.declared.cell.Cell.{Cell}
use Rattle.geometry.specs.declared.scope.Scope.{Scope}
use Rattle.book.specs.declared.line.Line.{Line}
use Rattle.sinks.specs.declared.refusal.SinkRefusal.{SinkRefusal}
use Rattle.sinks.specs.Meaning.{Parts, Asking, Draining, materials, in_grid}
use Rattle.steps.specs.declared.stop.Ending.{Ending}
use Rattle.steps.specs.Acting.{Ran}
use Rattle.build.specs.declared.build.Waiting.{Waiting}
use Rattle.build.specs.declared.build.Closed.{Closed}
use Rattle.build.specs.Builds.{Tells}

-- a call and its answer: a run with its budget, the steps made and the ending; the question what waits; a close; a
-- drain; the questions for a material's count and volume and for a cell
pub data Event : Type 0 where
  ran : (budget steps : ℕ) → Ending → Event
  waited : Waiting → Event
  closed : Closed → Event
  drained : Result ℕ SinkRefusal → Event
  counted : (m : ℕ) → Result ℕ SinkRefusal → Event
  measured : (m : ℕ) → Result ℕ SinkRefusal → Event
  looked : Cell → Result ℕ SinkRefusal → Event

-- the steps that all runs answered
abbrev pub answered : List Event → ℕ
answered [] = 0
answered (ran budget n e ∷ es) = answered es + n
answered (waited r ∷ es) = answered es
answered (closed r ∷ es) = answered es
answered (drained r ∷ es) = answered es
answered (counted m r ∷ es) = answered es
answered (measured m r ∷ es) = answered es
answered (looked d r ∷ es) = answered es

module _ {S : Type 0} (edge : ℕ) (parts : S → Parts) (took : S → Block → S → Type 0) (kept : S → S → Type 0) (text : S → List ℕ) where
  -- The events, the latest first; whether the build is still open; the scopes that wait; the steps that the build
  -- counts; and the sink. Each link is what the call promises. After a close only the sink is called.
  pub data History (ls : List Line) (cap : ℕ) (lots : List Scope) (start : S) : List Event → Bool → List Scope → ℕ → S → Type 0 where
    opened : History ls cap lots start [] true lots 0 start
    run : {es : List Event} {ws vs : List Scope} {c d : ℕ} {s t : S} (budget n : ℕ) (e : Ending) → History ls cap lots start es true ws c s
        → Ran edge parts took kept ls ws vs cap s t budget n e → d ≡ min (c + n) (2 ^ 64 - 1) → History ls cap lots start (ran budget n e ∷ es) true vs d t
    wait : {es : List Event} {ws : List Scope} {c : ℕ} {s : S} (r : Waiting) → History ls cap lots start es true ws c s
        → Tells ws r → History ls cap lots start (waited r ∷ es) true ws c s
    close : {es : List Event} {ws : List Scope} {c : ℕ} {s : S} (r : Closed) → History ls cap lots start es true ws c s
        → Tells ws r.waiting → r.steps ≡ c → History ls cap lots start (closed r ∷ es) false ws c s
    drain : {es : List Event} {o : Bool} {ws : List Scope} {c : ℕ} {s t : S} (buffer after : List ℕ) (r : Result ℕ SinkRefusal) → History ls cap lots start es o ws c s
        → Draining parts text kept s t buffer after r → History ls cap lots start (drained r ∷ es) o ws c t
    count : {es : List Event} {o : Bool} {ws : List Scope} {c : ℕ} {s t : S} (m : ℕ) (r : Result ℕ SinkRefusal) → History ls cap lots start es o ws c s
        → Asking parts kept (m < materials) ((parts s).count m) s t r → History ls cap lots start (counted m r ∷ es) o ws c t
    measure : {es : List Event} {o : Bool} {ws : List Scope} {c : ℕ} {s t : S} (m : ℕ) (r : Result ℕ SinkRefusal) → History ls cap lots start es o ws c s
        → Asking parts kept (m < materials) ((parts s).volume m) s t r → History ls cap lots start (measured m r ∷ es) o ws c t
    look : {es : List Event} {o : Bool} {ws : List Scope} {c : ℕ} {s t : S} (d : Cell) (r : Result ℕ SinkRefusal) → History ls cap lots start es o ws c s
        → Asking parts kept (in_grid edge d ≡ true) ((parts s).cell d) s t r → History ls cap lots start (looked d r ∷ es) o ws c t
