-- The lines of a file.
use Rattle.std.specs.Prelude.{◌≡◌, ℕ, ◌+◌, ◌<◌, Bool, true, false, cond, ◌&&◌, List, [], ◌∷◌, ◌++◌, length, Some, None, Option, ◌==◌}
use Rattle.text.specs.Bytes.{is_space}
use Rattle.text.specs.declared.lines.Line.{Line}
use Rattle.text.specs.declared.lines.Lines.{Lines}

-- the most bytes that a file may have
abbrev pub file_limit : ℕ
file_limit = 32768

-- a last line that no line feed ends, if it has a byte
abbrev pub last_line : List ℕ → List (List ℕ)
last_line [] = []
last_line (b ∷ bs) = (b ∷ bs) ∷ []

-- the lines of bytes, where acc was read of the first; 10 is the line feed
abbrev pub lines_from : List ℕ → List ℕ → List (List ℕ)
lines_from acc [] = last_line acc
lines_from acc (b ∷ bs) = cond (b == 10) (acc ∷ lines_from [] bs) (lines_from (acc ++ b ∷ []) bs)

-- the lines of a file
abbrev pub lines_of : List ℕ → List (List ℕ)
lines_of xs = lines_from [] xs

-- the first line, and what follows it
pub record Cut (xs l rest : List ℕ) : Type 0 where
  pub same : lines_of xs ≡ l ∷ lines_of rest
  pub shorter : length rest < length xs

-- the lines that are still to come
abbrev pub lines_left : Lines → List (List ℕ)
lines_left s = lines_of s.rest.now

-- the next line has the next number, and those after it are left; or there is none
abbrev pub NextLine : Lines → Lines → Option Line → Type 0
NextLine s t (Some l) =
    (lines_left s ≡ l.bytes.now ∷ lines_left t) × (l.number ≡ s.before + 1) × (t.before ≡ s.before + 1)
NextLine s t None = (lines_left s ≡ []) × (lines_left t ≡ []) × (t.before ≡ s.before)

-- each line with a line feed after it
abbrev pub fed : List (List ℕ) → List ℕ
fed [] = []
fed (l ∷ ls) = l ++ 10 ∷ fed ls

-- bytes with a line feed after the last line where it lacks one; fresh says that no line is begun
abbrev pub completed : Bool → List ℕ → List ℕ
completed true [] = []
completed false [] = 10 ∷ []
completed fresh (b ∷ bs) = b ∷ completed (b == 10) bs

-- a line has no line feed in it
abbrev pub no_feed : List ℕ → Bool
no_feed [] = true
no_feed (b ∷ bs) = cond (b == 10) false (no_feed bs)

-- no line has one
abbrev pub no_feeds : List (List ℕ) → Bool
no_feeds [] = true
no_feeds (l ∷ ls) = no_feed l && no_feeds ls

-- the lines of a file in plain words: they have no line feed, and each followed by one they are the file, completed at its end
pub record Rejoins (xs : List ℕ) (ls : List (List ℕ)) : Type 0 where
  pub plain : no_feeds ls ≡ true
  pub whole : fed ls ≡ completed true xs

-- only spaces, or nothing
abbrev pub is_blank : List ℕ → Bool
is_blank [] = true
is_blank (b ∷ bs) = is_space b && is_blank bs
