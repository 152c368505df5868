-- The numbers that bound what can exist.
use Rattle.std.specs.Prelude.{ℕ}

-- the edge of the site, a cube with its low corner at (0, 0, 0), in millimetres
abbrev pub site : ℕ
site = 16384

-- the least size of a box on an axis
abbrev pub least : ℕ
least = 1

-- the most rule lines of a book
abbrev pub most_lines : ℕ
most_lines = 64
