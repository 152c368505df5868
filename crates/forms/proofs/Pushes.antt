-- A push whose refusal was passed on.
use Rattle.std.proofs.Common.{◌≡◌, ℕ, ◌<◌, ◌≤◌, List, [], ◌∷◌, ◌++◌, length, Some, None, Ok, Err, Result}
use Rattle.std.specs.Result.{result_ok}
use Rattle.bounded.specs.Held.{Pushed}
use Rattle.bounded.specs.declared.full.Full.{Full}

module _ {T : Type 0} (n : ℕ) (before : List T) (x : T) (after : List T) where
  -- it was taken
  pub pushed : (r : Result Unit Full) (u : Unit {0}) → Pushed n before x after r → Some u ≡ result_ok r → (length before < n) × (after ≡ before ++ x ∷ [])
  pushed (Ok v) u h e = h
  pushed (Err f) u h e = absurd (let q : Some u ≡ None = e in cc)

  -- it was refused
  pub refused : (r : Result Unit Full) → Pushed n before x after r → None ≡ result_ok r → (n ≤ length before) × (after ≡ before)
  refused (Ok v) h e = absurd (let q : None ≡ Some v = e in cc)
  refused (Err f) h e = h
