-- What each call does to a stack.
use Rattle.std.specs.Prelude.{◌≡◌, ◌<◌, List, ◌∷◌, length, drop, Ok, Err, Result, slice_set}
use Rattle.stack.specs.Held.{entries, capacity}
use Rattle.bounded.specs.declared.full.Full.{Full}
use Rattle.stack.specs.declared.Stack.{Stack}

module _ {X : Type 0} where
  -- the entries become es and the slots ys; the slice is still that of the same lender
  pub record Becomes (s t : Stack X) (es ys : List X) : Type 0 where
    pub entries_are : entries t ≡ es
    pub slots_are : t.slots.now ≡ ys
    pub size : capacity t ≡ capacity s
    pub lender : t.slots.ghost_name ≡ s.slots.ghost_name

  -- nothing is altered
  abbrev pub Kept : Stack X → Stack X → Type 0
  Kept s t = Becomes s t (entries s) s.slots.now

  -- x lies on top, in the first slot that was not in use, or every slot was in use and nothing is altered
  abbrev pub Pushed : Stack X → X → Stack X → Result (Unit {0}) Full → Type 0
  Pushed s x t (Ok u) =
      (length (entries s) < capacity s) × Becomes s t (x ∷ entries s) (slice_set s.slots.now (length (entries s)) x)
  Pushed s x t (Err e) = (length (entries s) ≡ capacity s) × Kept s t

  -- the top entry, if there is one, has left
  abbrev pub Popped : Stack X → Stack X → Type 0
  Popped s t = Becomes s t (drop 1 (entries s)) s.slots.now
