-- How many entries an inline list holds, and what an entry more does where there is room.
use Rattle.std.proofs.Common.{◌≡◌, ℕ, ◌<◌, ◌≤◌, List, [], ◌∷◌, ◌++◌, length, Ok, Err, Result, arith, length-take}
use Rattle.bounded.specs.declared.full.Full.{Full}
use Rattle.bounded.specs.declared.inline.InlineVec.{InlineVec}
use Rattle.bounded.specs.Held.{Pushed}
use Rattle.bounded.specs.Listed.{listed}

pub listed_count : {T : Type 0} {N : ℕ} (v : InlineVec T N) → length (listed v) ≡ v.count
listed_count v = omega (arith, length-take v.count v.items, v.few, v.full)

pub listed_few : {T : Type 0} {N : ℕ} (v : InlineVec T N) → length (listed v) ≤ N
listed_few v = omega (arith, listed_count v, v.few)

pub pushed_in : {T : Type 0} (n : ℕ) (before : List T) (x : T) (after : List T) (r : Result Unit Full) → Pushed n before x after r → length before < n → after ≡ before ++ x ∷ []
pushed_in n before x after (Ok _) p room = p.1
pushed_in n before x after (Err _) p room = absurd (omega (arith, p.0))
