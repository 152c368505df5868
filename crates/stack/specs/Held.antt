-- What a stack holds.
use Rattle.std.specs.Prelude.{◌≡◌, ℕ, ◌+◌, ◌<◌, ◌≤◌, min, List, [], ◌∷◌, reverse, length, take, Some, None, Option, Ok, Err, Result, slice_index_or, slice_set}
use Rattle.bounded.specs.declared.full.Full.{Full}
use Rattle.stack.specs.declared.Stack.{Stack}

module _ {X : Type 0} where
  -- the first n of the slots, the last of them first
  abbrev pub held : List X → ℕ → List X
  held xs n = reverse (take n xs)

  -- the entries of a stack, the top first
  abbrev pub entries : Stack X → List X
  entries s = held s.slots.now s.mark

  -- how many entries it has room for in all
  abbrev pub capacity : Stack X → ℕ
  capacity s = length s.slots.now

  -- the first of some entries
  abbrev pub top_of : List X → Option X
  top_of [] = None
  top_of (x ∷ xs) = Some x

  -- ys is xs with x written at n, or xs where n lies past its end
  abbrev pub Put : List X → ℕ → X → List X → Result (Unit {0}) Full → Type 0
  Put xs n x ys (Ok u) = (n < length xs) × (ys ≡ slice_set xs n x)
  Put xs n x ys (Err e) = (length xs ≤ n) × (ys ≡ xs)

  -- the last of the first n slots with its place, if there is one
  abbrev pub LastOf : List X → ℕ → Option (X × ℕ) → Type 0
  LastOf xs n (Some p) = (p.1 + 1 ≡ min n (length xs)) × (p.0 ≡ slice_index_or xs p.1 p.0)
  LastOf xs n None = min n (length xs) ≡ 0
