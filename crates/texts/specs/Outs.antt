-- Where a text goes.
use Rattle.std.specs.Prelude.{◌≡◌, ℕ, ◌+◌, ◌-◌, ◌^◌, ◌<◌, ◌≤◌, min, List, [], ◌++◌, length}
use Rattle.texts.specs.Writing.{Wrote}
use Rattle.texts.specs.declared.out.Measure.{Measure}
use Rattle.texts.specs.declared.out.Cursor.{Cursor}

-- what a text of a length that fits does, alone and after another
pub record OutLaws {W : Type 0} (fits : W → List ℕ → Type 0) (wrote : W → List ℕ → W → Type 0) : Type 0 where
  pub none : (w : W) → fits w [] → wrote w [] w
  pub joined : (a b c : W) (u v : List ℕ) → wrote a u b → wrote b v c → wrote a (u ++ v) c
  pub shorter : (w : W) (u v : List ℕ) → length u ≤ length v → fits w v → fits w u
  pub rest : (a b : W) (u v t : List ℕ) → length u + length v ≤ length t → fits a t → wrote a u b → fits b v

-- a number of bytes as far as it is counted
abbrev pub counted : ℕ → ℕ
counted n = min n (2 ^ 64 - 1)

-- the number so far is one of a measure, which takes any text
abbrev pub is_counted : Measure → List ℕ → Type 0
is_counted a text = a.bytes < 2 ^ 64

-- so many bytes more
abbrev pub Counted : Measure → List ℕ → Measure → Type 0
Counted a text b = b.bytes ≡ counted (a.bytes + length text)

-- the text fits between the place and the end of the buffer
abbrev pub has_room : Cursor → List ℕ → Type 0
has_room a text = a.at + length text ≤ length a.out.now

-- the text was written from the place on, and the place is where it ends
pub record CursorWrote (a : Cursor) (text : List ℕ) (b : Cursor) : Type 0 where
  pub within : a.at ≤ length a.out.now
  pub left : Wrote a.out.now a.at text b.out.now b.at
  pub lender : b.out.ghost_name ≡ a.out.ghost_name
