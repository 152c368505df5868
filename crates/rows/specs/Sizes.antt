-- The range of a part's length or weight.
use Rattle.std.specs.Prelude.{ℕ, ◌≤◌, List, [], ◌∷◌}
use Rattle.geometry.specs.Limits.{least, site}
use Rattle.rows.specs.declared.size.Size.{Size}
use Rattle.rows.specs.declared.size.Size.TheVariants.{Fix, Float}

-- the length of a fixed part, or the weight of a floating one
abbrev pub amount : Size → ℕ
amount (Fix m) = m.0
amount (Float w) = w.0

-- the least that it may be
abbrev pub lowest : Size → ℕ
lowest (Fix m) = least
lowest (Float w) = 1

-- and the most
abbrev pub highest : Size → ℕ
highest (Fix m) = site
highest (Float w) = 1000

-- what each part asks for is in its range
abbrev pub InRange : List Size → Type 0
InRange [] = Unit {0}
InRange (s ∷ ss) = ((lowest s ≤ amount s) × (amount s ≤ highest s)) × InRange ss
