-- The tokens of a line.
use Rattle.std.specs.Prelude.{◌≡◌, ℕ, ◌+◌, ◌-◌, ◌<◌, ◌≤◌, Bool, true, false, cond, not, ◌&&◌, ◌||◌, List, [], ◌∷◌, ◌++◌, length, drop, replicate, Some, None, Option, ◌==◌, nat_lt, slice_index, slice_range}
use Rattle.text.specs.Bytes.{is_digit, is_space, separates}
use Rattle.text.specs.declared.placed.Placed.{Placed}
use Rattle.text.specs.declared.tokens.Token.{Token}
use Rattle.text.specs.declared.tokens.Token.TheVariants.{Open, Close, Number, Word}
use Rattle.text.specs.declared.tokens.Tokens.{Tokens}

-- what a line is made of, besides spaces
pub data Lexeme : Type 0 where
  opening : Lexeme
  closing : Lexeme
  number : List ℕ → Lexeme
  word : List ℕ → Lexeme

-- a run of bytes is a number if it begins with a digit, else a word
abbrev pub run_of : List ℕ → Lexeme
run_of bs = cond (is_digit (slice_index bs 0)) (number bs) (word bs)

-- the run that ends before column k, if it has a byte, with its own column
abbrev pub ended : ℕ → List ℕ → List (Lexeme × ℕ)
ended k [] = []
ended k (b ∷ bs) = (run_of (b ∷ bs), k - length (b ∷ bs)) ∷ []

-- lexemes with their columns, where the bytes begin at column k after the run acc; 40 and 41 are the brackets
abbrev pub lexed : ℕ → List ℕ → List ℕ → List (Lexeme × ℕ)
lexed k acc [] = ended k acc
lexed k acc (b ∷ bs) =
    cond (is_space b) (ended k acc ++ lexed (k + 1) [] bs)
    (cond (b == 40) (ended k acc ++ (opening, k) ∷ lexed (k + 1) [] bs)
    (cond (b == 41) (ended k acc ++ (closing, k) ∷ lexed (k + 1) [] bs) (lexed (k + 1) (acc ++ b ∷ []) bs)))

-- the lexemes of a line with their columns
abbrev pub tokens_of : List ℕ → List (Lexeme × ℕ)
tokens_of l = lexed 1 [] l

-- those from index i on
abbrev pub tokens_at : List ℕ → ℕ → List (Lexeme × ℕ)
tokens_at l i = lexed (i + 1) [] (drop i l)

-- spaces from `at` to r, where none stands; or up to the end, and there is no lexeme
abbrev pub Skipped : List ℕ → ℕ → Option ℕ → Type 0
Skipped l at (Some r) = (r < length l) × (is_space (slice_index l r) ≡ false) × (tokens_at l at ≡ tokens_at l r)
Skipped l at None = tokens_at l at ≡ []

-- the run that begins at `at` goes to r
pub record RunTo (l : List ℕ) (at r : ℕ) : Type 0 where
  pub low : at ≤ r
  pub high : r ≤ length l
  pub moves : at < length l → separates (slice_index l at) ≡ false → at < r
  pub same : tokens_at l at ≡ ended (r + 1) (slice_range l at r) ++ tokens_at l r

-- a token of the code as a lexeme
abbrev pub told : Token → Lexeme
told Open = opening
told Close = closing
told (Number w) = number w.now
told (Word w) = word w.now

-- the first lexeme from `at` on begins there, and those after it are left at its end
abbrev pub TokenAt : List ℕ → ℕ → Token × ℕ → Type 0
TokenAt l at p = tokens_at l at ≡ (told p.0, at + 1) ∷ tokens_at l p.1

-- the lexemes that are still to come
abbrev pub tokens_left : Tokens → List (Lexeme × ℕ)
tokens_left s = tokens_at s.line.bytes.now s.at

-- the next token stands in the same line at its column, and those after it are left; or there is none
abbrev pub NextToken : Tokens → Tokens → Option (Placed Token) → Type 0
NextToken s t (Some p) =
    (tokens_left s ≡ (told p.value, p.column) ∷ tokens_left t) × (p.line ≡ s.line.number) × (t.line ≡ s.line)
NextToken s t None = (tokens_left s ≡ []) × (tokens_left t ≡ []) × (t.line ≡ s.line)

-- a lexeme as it stands in a line
abbrev pub spelled : Lexeme → List ℕ
spelled opening = 40 ∷ []
spelled closing = 41 ∷ []
spelled (number w) = w
spelled (word w) = w

-- lexemes laid out at their columns, with spaces between, from column k up to column n
abbrev pub laid_out : ℕ → ℕ → List (Lexeme × ℕ) → List ℕ
laid_out k n [] = replicate (n - k) 32
laid_out k n (p ∷ ps) = replicate (p.1 - k) 32 ++ (spelled p.0 ++ laid_out (p.1 + length (spelled p.0)) n ps)

-- no byte is a space or a bracket
abbrev pub is_run : List ℕ → Bool
is_run [] = true
is_run (b ∷ bs) = not (separates b) && is_run bs

-- a number or a word is a run with a byte, and begins with a digit just if it is a number
abbrev pub is_formed : Lexeme → Bool
is_formed opening = true
is_formed closing = true
is_formed (number w) = is_digit (slice_index w 0) && (nat_lt 0 (length w) && is_run w)
is_formed (word w) = not (is_digit (slice_index w 0)) && (nat_lt 0 (length w) && is_run w)

-- each lexeme is
abbrev pub are_formed : List (Lexeme × ℕ) → Bool
are_formed [] = true
are_formed (p ∷ ps) = is_formed p.0 && are_formed ps

-- an opening or a closing bracket
abbrev pub is_bracket : Lexeme → Bool
is_bracket opening = true
is_bracket closing = true
is_bracket (number w) = false
is_bracket (word w) = false

-- between two runs that follow each other there is a space
abbrev pub are_apart : List (Lexeme × ℕ) → Bool
are_apart [] = true
are_apart (p ∷ []) = true
are_apart (p ∷ q ∷ ps) = (is_bracket p.0 || (is_bracket q.0 || nat_lt (p.1 + length (spelled p.0)) q.1)) && are_apart (q ∷ ps)

-- the tokens of a line in plain words: laid out at their columns they are the line, and runs are whole
pub record Tokenized (l : List ℕ) (ps : List (Lexeme × ℕ)) : Type 0 where
  pub laid : laid_out 1 (length l + 1) ps ≡ l
  pub formed : are_formed ps ≡ true
  pub apart : are_apart ps ≡ true
