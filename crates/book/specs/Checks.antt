-- What a check has found of the lines of a book, as a test.
use Rattle.std.specs.Prelude.{ℕ, ◌+◌, Bool, true, false, ◌&&◌, List, [], ◌∷◌, length, take, ◌==◌, nat_lt}
use Rattle.std.specs.List.{list_all}
use Rattle.bounded.specs.Listed.{listed}
use Rattle.geometry.specs.Limits.{most_lines}
use Rattle.rows.specs.declared.parts.Parts.{Parts}
use Rattle.rows.specs.Rows.{parts_of}
use Rattle.book.specs.declared.guard.Guard.{Guard}
use Rattle.book.specs.declared.body.Body.{Body}
use Rattle.book.specs.declared.body.Body.TheVariants.{Make, Use, Repeat, Split}
use Rattle.book.specs.declared.line.Line.{Line}

-- all elements pass the test
abbrev pub every : {X : Type 0} → (X → Bool) → List X → Bool
every p xs = list_all p xs

-- a rule is told by the index of a line
abbrev pub known : ℕ → Bool
known t = nat_lt t most_lines

abbrev pub ok_known : List ℕ → Bool
ok_known ts = every known ts

-- a lone rule stands further down than line i
abbrev pub ok_lone : ℕ → List ℕ → Bool
ok_lone i [] = true
ok_lone i (t ∷ []) = nat_lt i t
ok_lone i (t ∷ u ∷ ts) = true

abbrev pub ok_rules : ℕ → List ℕ → Bool
ok_rules i ts = ok_known ts && ok_lone i ts

-- the rules of the parts of a split, in order
abbrev pub part_rules : Parts → List ℕ → List ℕ
part_rules p ts = take (length (parts_of p)) ts

-- the body of line i names a material or rules that exist; a rule that takes the whole scope stands further down
abbrev pub ok_body : ℕ → Body → Bool
ok_body i (Make m) = nat_lt m 16
ok_body i (Use t) = nat_lt i t && nat_lt t most_lines
ok_body i (Repeat a n t) = nat_lt i t && nat_lt t most_lines
ok_body i (Split a p ts) = ok_rules i (part_rules p ts)

-- the lines from the i-th on
abbrev pub ok_from : ℕ → List Line → Bool
ok_from i [] = true
ok_from i (l ∷ ls) = ok_body i l.body && ok_from (i + 1) ls

-- the guards of a line
abbrev pub guards_of : Line → List Guard
guards_of l = listed l.guards

-- the last line has no guard
abbrev pub last_free : List Line → Bool
last_free [] = false
last_free (l ∷ []) = length (guards_of l) == 0
last_free (l ∷ m ∷ ls) = last_free (m ∷ ls)

abbrev pub ok_lines : List Line → Bool
ok_lines ls = ok_from 0 ls && last_free ls
