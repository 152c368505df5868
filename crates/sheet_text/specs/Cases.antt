-- Worked cases of the lines of a sheet; 10 is the line feed.
use Rattle.std.specs.Prelude.{◌≡◌, ℕ, cond, List, [], ◌∷◌, ◌++◌, codes, ◌==◌}
use Rattle.grammar.specs.declared.state.FileKind.TheVariants.{Rules, Lots}
use Rattle.judge.specs.declared.faults.Fault.TheVariants.{Misplaced, NoLot}
use Rattle.steps.specs.declared.stop.Ending.TheVariants.{Done, Spent}
use Rattle.texts.specs.Lines.{line_text}
use Rattle.texts.specs.declared.line.LineKind.TheVariants as line
use Rattle.sheet_text.specs.Told.{ending_text, refused_text, sheet_text}

-- a line with its line feed
abbrev pub fed : List ℕ → List ℕ
fed text = text ++ 10 ∷ []

-- the numbers of materials 0 and 1; the others have none
abbrev pub two : ℕ → ℕ → ℕ → ℕ
two a b m = cond (m == 0) a (cond (m == 1) b 0)

-- lines of endings, refused files and blocks
abbrev pub Lines : Type 0
Lines =
    (ending_text 12 Done ≡ fed (codes "(done 12)"))
    × (ending_text 0 Spent ≡ fed (codes "(spent 0)"))
    × (line_text line.Stop 32 (5 ∷ 0 ∷ 90 ∷ 16383 ∷ 200 ∷ 100 ∷ 1 ∷ []) ≡ fed (codes "(stop 32 5 0 90 16383 200 100 1)"))
    × (refused_text Rules (record { value = Misplaced; line = 3; column = 17 }) ≡ fed (codes "(refused rules 14 3 17)"))
    × (refused_text Lots (record { value = NoLot; line = 0; column = 0 }) ≡ fed (codes "(refused lots 24 0 0)"))
    × (line_text line.Block 2 (0 ∷ 90 ∷ 0 ∷ 200 ∷ 100 ∷ 300 ∷ []) ≡ fed (codes "(block 2 0 90 0 200 100 300)"))

-- a whole sheet
abbrev pub Whole : Type 0
Whole =
    sheet_text (two 3 1) (two 24000000 6000000) 9 Done
    ≡ fed (codes "(m0 3 24000000)") ++ fed (codes "(m1 1 6000000)") ++ fed (codes "(total 4 30000000)") ++ fed (codes "(done 9)")

-- all of them
abbrev pub Table : Type 0
Table = Lines × Whole
