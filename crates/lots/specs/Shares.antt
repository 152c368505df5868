-- Boxes that share a cube.
use Rattle.std.specs.Prelude.{◌≡◌, ℕ, ◌+◌, ◌<◌, ◌≤◌, Bool, true, false, ◌&&◌, ◌||◌, List, [], ◌∷◌, nat_lt}
use Rattle.lots.specs.Lists.{Box}

-- s millimetres from a on and t from b on have one in common
abbrev pub meets : ℕ → ℕ → ℕ → ℕ → Bool
meets a s b t = nat_lt a (b + t) && nat_lt b (a + s)

-- two boxes meet on each axis
abbrev pub shares : Box → Box → Bool
shares a b =
    meets a.px a.sx b.px b.sx && (meets a.py a.sy b.py b.sy && meets a.pz a.sz b.pz b.sz)

-- a box shares a cube with one of a list
abbrev pub shares_any : Box → List Box → Bool
shares_any a [] = false
shares_any a (b ∷ bs) = shares a b || shares_any a bs

-- s millimetres from a on hold the i-th
abbrev pub Spans : ℕ → ℕ → ℕ → Type 0
Spans a s i = (a ≤ i) × (i < a + s)

-- a box holds the cube (i, j, k)
abbrev pub HoldsCube : Box → ℕ → ℕ → ℕ → Type 0
HoldsCube b i j k = Spans b.px b.sx i × Spans b.py b.sy j × Spans b.pz b.sz k

-- some cube lies in both
abbrev pub CommonCube : Box → Box → Type 0
CommonCube a b = (i : ℕ) × (j : ℕ) × (k : ℕ) × (HoldsCube a i j k) × (HoldsCube b i j k)

-- in plain words: boxes with sizes of at least 1 share by the test just if some cube lies in both
abbrev pub SharesACube : Type 0
SharesACube =
    (a b : Box) → 1 ≤ a.sx → 1 ≤ a.sy → 1 ≤ a.sz → 1 ≤ b.sx → 1 ≤ b.sy → 1 ≤ b.sz
    → (shares a b ≡ true → CommonCube a b) × (CommonCube a b → shares a b ≡ true)
