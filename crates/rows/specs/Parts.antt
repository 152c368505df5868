-- One part more.
use Rattle.std.specs.Prelude.{◌≡◌, ℕ, ◌<◌, ◌≤◌, [], ◌∷◌, ◌++◌, length, Result, Ok, Err}
use Rattle.bounded.specs.declared.full.Full.{Full}
use Rattle.rows.specs.declared.part.Part.{Part}
use Rattle.rows.specs.declared.parts.Parts.{Parts}
use Rattle.rows.specs.Rows.{parts_of}

-- the most parts of a split
abbrev pub most_parts : ℕ
most_parts = 16

-- the part stands at the end, or there was no room and nothing changed
abbrev pub Pushed : Parts → Part → Parts → Result Unit Full → Type 0
Pushed before p after (Ok _) = (length (parts_of before) < most_parts) × (parts_of after ≡ parts_of before ++ p ∷ [])
Pushed before p after (Err _) = (most_parts ≤ length (parts_of before)) × (after ≡ before)
