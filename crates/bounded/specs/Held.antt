-- What an entry more does to a list of at most n entries.
use Rattle.std.specs.Prelude.{◌≡◌, ℕ, ◌<◌, ◌≤◌, List, [], ◌∷◌, ◌++◌, length, Result, Ok, Err}
use Rattle.bounded.specs.declared.full.Full.{Full}

-- x stands at the end, or there were n entries and nothing changed
abbrev pub Pushed : {T : Type 0} → ℕ → List T → T → List T → Result Unit Full → Type 0
Pushed n before x after (Ok _) = (length before < n) × (after ≡ before ++ x ∷ [])
Pushed n before x after (Err _) = (n ≤ length before) × (after ≡ before)
