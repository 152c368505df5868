-- Worked cases of the judgement of a line.
use Rattle.std.specs.Prelude.{◌≡◌, ℕ, List, [], ◌∷◌, replicate, Some, None, codes, Option}
use Rattle.std.specs.Option.{option_map}
use Rattle.text.specs.Findings.{too_long}
use Rattle.text.specs.declared.placed.Placed.{Placed}
use Rattle.grammar.specs.declared.state.FileKind.{FileKind}
use Rattle.grammar.specs.declared.state.FileKind.TheVariants.{Rules, Lots}
use Rattle.judge.specs.Faults.{number_of}
use Rattle.judge.specs.Judged.{judged, place}
use Rattle.judge.specs.declared.faults.Fault.{Fault}
use Rattle.judge.specs.declared.faults.Fault.TheVariants.{Misplaced, BadNumber, BadName}

-- the column of a fault in a line
abbrev pub at : Fault → FileKind → List ℕ → Option ℕ
at f k l = place k l f

-- the number and the column of the judgement
abbrev pub verdict : FileKind → List ℕ → Option (ℕ × ℕ)
verdict k l = option_map (λ (p : Placed Fault). (number_of p.value, p.column)) (judged k 1 l)

-- a line of spaces is skipped; the longest line has 240 bytes
abbrev pub Lengths : Type 0
Lengths =
    (verdict Rules [] ≡ None)
    × (verdict Rules (codes "   ") ≡ None)
    × (too_long (replicate 240 32) ≡ None)
    × (too_long (replicate 241 32) ≡ Some 241)

-- tabs and bytes above 127 are not allowed; a fault of a lower number further right comes first
abbrev pub Bytes : Type 0
Bytes =
    (verdict Rules (9 ∷ []) ≡ Some (12, 1))
    × (verdict Rules (40 ∷ 200 ∷ []) ≡ Some (12, 2))
    × (verdict Rules (codes ") _") ≡ Some (12, 3))

-- none open, a ninth level, the innermost still open; the whole line counts
abbrev pub Brackets : Type 0
Brackets =
    (verdict Rules (codes ")") ≡ Some (13, 1))
    × (verdict Rules (codes "((((((((()") ≡ Some (13, 9))
    × (verdict Rules (codes "(rule A (make a)") ≡ Some (13, 1))
    × (verdict Rules (codes "((") ≡ Some (13, 2))
    × (verdict Rules (codes "(material a) )") ≡ Some (13, 14))

-- a fourth guard, an empty split and form, what follows a form, a wrong axis, another file's form; keywords may be names
abbrev pub Places : Type 0
Places =
    (at Misplaced Rules (codes "(rule A (when x 1 2) (when y 1 2) (when z 1 2) (when x 1 2) (make a))") ≡ Some 49)
    × (at Misplaced Rules (codes "(rule A (split x))") ≡ Some 17)
    × (at Misplaced Rules (codes "()") ≡ Some 2)
    × (at Misplaced Rules (codes "(material a) b") ≡ Some 14)
    × (at Misplaced Rules (codes "(rule A (split w (fix 1 a)))") ≡ Some 16)
    × (at Misplaced Rules (codes "(rule A (repeat x -5 B))") ≡ Some 19)
    × (at Misplaced Rules (codes "(lot 0 0 0 1 1 1 A)") ≡ Some 2)
    × (at Misplaced Lots (codes "(material a)") ≡ Some 2)
    × (at Misplaced Rules (codes "(material material)") ≡ None)

-- HIGH below LOW, leading zeros, letters, each range, numbers of any length
abbrev pub Numbers : Type 0
Numbers =
    (at BadNumber Rules (codes "(rule A (when x 9 5) (make a))") ≡ Some 19)
    × (at BadNumber Rules (codes "(rule A (when x 09 5) (make a))") ≡ Some 17)
    × (at BadNumber Rules (codes "(rule A (when x 5 5) (repeat x 16384 a))") ≡ None)
    × (at BadNumber Rules (codes "(rule A (repeat x 5a a))") ≡ Some 19)
    × (at BadNumber Rules (codes "(rule A (split x (fix 16385 a)))") ≡ Some 23)
    × (at BadNumber Rules (codes "(rule A (split x (float 1000 a) (float 1001 a)))") ≡ Some 40)
    × (at BadNumber Lots (codes "(lot 16383 00 0 1 1 1 A)") ≡ Some 12)
    × (at BadNumber Lots (codes "(lot 0 0 16384 1 1 1 A)") ≡ Some 10)
    × (at BadNumber Lots (codes "(lot 0 0 0 1 0 1 A)") ≡ Some 14)
    × (at BadNumber Lots (codes "(lot 0 0 0 1 1 99999999999999999999999 A)") ≡ Some 16)

-- a hyphen first, 16 and 17 bytes, a bad number left of a bad name
abbrev pub Names : Type 0
Names =
    (at BadName Rules (codes "(material -a)") ≡ Some 11)
    × (at BadName Rules (codes "(material abcdefghijklmnop)") ≡ None)
    × (at BadName Rules (codes "(material abcdefghijklmnopq)") ≡ Some 11)
    × (at BadNumber Rules (codes "(rule A (split x (fix 0 a) (fix 1 -b)))") ≡ Some 23)
    × (at BadName Rules (codes "(rule A (split x (fix 0 a) (fix 1 -b)))") ≡ Some 35)

-- lines of a good sheet
abbrev pub Sheet : Type 0
Sheet =
    (at Misplaced Rules (codes "(rule Wall (split x (fix 200 Post) (float 1 Panel) (float 1 Panel) (float 1 Panel)))") ≡ None)
    × (at BadNumber Rules (codes "(rule Wall (split x (fix 200 Post) (float 1 Panel) (float 1 Panel) (float 1 Panel)))") ≡ None)
    × (at BadName Rules (codes "  (rule Post(make foam) )") ≡ None)
    × (at Misplaced Lots (codes "(lot 0 0 0 1000 100 300 Wall)") ≡ None)
    × (at BadNumber Lots (codes "(lot 0 0 0 1000 100 300 Wall)") ≡ None)

-- all of them
abbrev pub Table : Type 0
Table = Lengths × Bytes × Brackets × Places × Numbers × Names × Sheet
