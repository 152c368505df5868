-- Calls given as data, and the histories that carrying them out leads to.
use Rattle.std.specs.Prelude.{◌≡◌, ℕ, Bool, true, List, [], ◌∷◌, ◌++◌, map, Some, None, Option}
use Rattle.geometry.specs.declared.block.Block.{Block}
use Rattle.geometry.specs.declared.scope.Scope.{Scope}
use Rattle.book.specs.declared.line.Line.{Line}
use Rattle.sinks.specs.Meaning.{Parts}
use Rattle.build.specs.declared.build.Closed.{Closed}
use Rattle.build.specs.declared.calls.Call.{Call}
use Rattle.build.specs.declared.calls.Call.TheVariants.{Run, Waiting, Sink}
use Rattle.build.specs.declared.calls.SinkCall.{SinkCall}
use Rattle.build.specs.declared.calls.SinkCall.TheVariants.{Drain, Count, Volume, Look}
use Rattle.build.specs.History.{Event, ran, waited, closed, drained, counted, measured, looked, History}
use Rattle.build.specs.Lawful.{Lawful}

-- the call of an event; none stands for a close
abbrev pub call_of : Event → Option Call
call_of (ran budget n e) = Some (Run budget)
call_of (waited r) = Some Waiting
call_of (closed r) = None
call_of (drained r) = Some (Sink Drain)
call_of (counted m r) = Some (Sink (Count m))
call_of (measured m r) = Some (Sink (Volume m))
call_of (looked d r) = Some (Sink (Look d))

-- the calls of events that stand with the latest first, in the order in which they were made
abbrev pub made : List Event → List (Option Call)
made [] = []
made (e ∷ es) = made es ++ (call_of e ∷ [])

-- the same of calls on a sink
abbrev pub on_sink : List SinkCall → List (Option Call)
on_sink ks = map (λ k. Some (Sink k)) ks

module _ {S : Type 0} (edge : ℕ) (parts : S → Parts) (took : S → Block → S → Type 0) (kept : S → S → Type 0) (text : S → List ℕ) where
  -- every history that leads to the sink s goes on to t by this call
  abbrev pub SinkOneMore : SinkCall → S → S → Type 0
  SinkOneMore k s t = (ls : List Line) (cap : ℕ) (lots : List Scope) (start : S) (es : List Event) (o : Bool) (ws : List Scope) (c : ℕ)
      → History edge parts took kept text ls cap lots start es o ws c s
      → (e : Event) × (call_of e ≡ Some (Sink k)) × History edge parts took kept text ls cap lots start (e ∷ es) o ws c t

  -- and by these calls
  abbrev pub SinkGoesOn : List SinkCall → S → S → Type 0
  SinkGoesOn ks s t = (ls : List Line) (cap : ℕ) (lots : List Scope) (start : S) (es : List Event) (o : Bool) (ws : List Scope) (c : ℕ)
      → History edge parts took kept text ls cap lots start es o ws c s
      → (fs : List Event) × (made fs ≡ made es ++ on_sink ks) × History edge parts took kept text ls cap lots start fs o ws c t

  -- the same of an open build beside its sink
  abbrev pub OneMore : List Line → ℕ → Call → List Scope → ℕ → S → List Scope → ℕ → S → Type 0
  OneMore ls cap k ws c s vs d t = (lots : List Scope) (start : S) (es : List Event)
      → History edge parts took kept text ls cap lots start es true ws c s
      → (e : Event) × (call_of e ≡ Some k) × History edge parts took kept text ls cap lots start (e ∷ es) true vs d t

  abbrev pub GoesOn : List Line → ℕ → List Call → List Scope → ℕ → S → List Scope → ℕ → S → Type 0
  GoesOn ls cap ks ws c s vs d t = (lots : List Scope) (start : S) (es : List Event)
      → History edge parts took kept text ls cap lots start es true ws c s
      → (fs : List Event) × (made fs ≡ made es ++ map Some ks) × History edge parts took kept text ls cap lots start fs true vs d t

-- the laws hold of these events, wherever they led
pub record Stage {S : Type 0} (edge : ℕ) (parts : S → Parts) (ls : List Line) (lots : List Scope) (es : List Event) : Type 0 where
  pub waiting : List Scope
  pub counts : ℕ
  pub sink : S
  pub laws : Lawful edge ls lots es waiting counts (parts sink)

-- at the start and after each event
abbrev pub Stages : {S : Type 0} → ℕ → (S → Parts) → List Line → List Scope → List Event → Type 0
Stages edge parts ls lots [] = Stage edge parts ls lots []
Stages edge parts ls lots (e ∷ es) = Stage edge parts ls lots (e ∷ es) × Stages edge parts ls lots es

-- from lots opened beside an empty sink: the calls were made in their order, then the close with this answer, then the
-- calls on the sink; the laws held at the start and after each of them, and hold of what the sink means at the end
pub record Carried {S : Type 0} (edge : ℕ) (parts : S → Parts) (ls : List Line) (lots : List Scope) (calls : List Call) (r : Closed) (after : List SinkCall) (p : Parts) : Type 0 where
  pub before : List Event
  pub events : List Event
  pub made_before : made before ≡ map Some calls
  pub made_all : made events ≡ made (closed r ∷ before) ++ on_sink after
  pub stages : Stages edge parts ls lots events
  pub waiting : List Scope
  pub counts : ℕ
  pub end : Lawful edge ls lots events waiting counts p
