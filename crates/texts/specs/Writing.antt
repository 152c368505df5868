-- Writing into a buffer from a place on.
use Rattle.std.specs.Prelude.{◌≡◌, ℕ, ◌+◌, List, ◌++◌, length, take, drop}
use Rattle.sinks.specs.Meaning.{over}

-- a buffer with a text written over it from a place on
abbrev pub put_at : List ℕ → ℕ → List ℕ → List ℕ
put_at buffer at text = take at buffer ++ over (drop at buffer) text

-- the text was written over the buffer from a place on: `left` is what the buffer then holds, `to` is where the text ends
pub record Wrote (buffer : List ℕ) (at : ℕ) (text left : List ℕ) (to : ℕ) : Type 0 where
  pub after : left ≡ put_at buffer at text
  pub value : to ≡ at + length text
