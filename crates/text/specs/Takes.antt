-- Tokens of one kind, taken one after the other.
use Rattle.std.specs.Prelude.{◌≡◌, ℕ, List, [], ◌∷◌, drop, Some, None, Option, ◌≢◌, ◌⊎◌}
use Rattle.std.specs.Borrow.{Bor}
use Rattle.text.specs.Tokens.{Lexeme, opening, closing, number, word, told, tokens_left}
use Rattle.text.specs.declared.placed.Placed.{Placed}
use Rattle.text.specs.declared.tokens.Token.{Token}
use Rattle.text.specs.declared.tokens.Tokens.{Tokens}

-- the lexeme of each kind of token that is taken: an opening bracket
abbrev pub open_at : Unit {0} → Lexeme
open_at u = opening

-- a closing bracket
abbrev pub close_at : Unit {0} → Lexeme
close_at u = closing

-- a word
abbrev pub word_at : Bor (List ℕ) → Lexeme
word_at w = word w.now

-- a number
abbrev pub number_at : Bor (List ℕ) → Lexeme
number_at w = number w.now

module _ {X : Type 0} (kind : X → Lexeme) where
  -- the token is of the kind and has this value; or it is of another kind
  abbrev pub OfKind : Token → Option X → Type 0
  OfKind u (Some x) = told u ≡ kind x
  OfKind u None = (x : X) → told u ≢ kind x

  -- the next token is of the kind, stands at its place and is taken; or it is passed over, being of another kind, or there is none
  abbrev pub Took : Tokens → Tokens → Option (Placed X) → Type 0
  Took s t (Some p) =
      (tokens_left s ≡ (kind p.value, p.column) ∷ tokens_left t) × (p.line ≡ s.line.number) × (t.line ≡ s.line)
  Took s t None =
      ((x : X) (c : ℕ) (us : List (Lexeme × ℕ)) → tokens_left s ≢ (kind x, c) ∷ us)
      × (tokens_left t ≡ drop 1 (tokens_left s)) × (t.line ≡ s.line)

-- `reads` says what is read of a token
module _ {X : Type 0} (reads : Token → Option X → Type 0) where
  -- a value is read of each token of the kind, and nothing of another
  abbrev pub Reads : (X → Lexeme) → Type 0
  Reads kind = (u : Token) (o : Option X) → reads u o → OfKind kind u o

  -- the next token is taken, and what is read of it stands at its place; or nothing is read of it, or there is none
  abbrev pub TookBy : Tokens → Tokens → Option (Placed X) → Type 0
  TookBy s t (Some p) =
      ((u : Token) × (reads u (Some p.value)) × (tokens_left s ≡ (told u, p.column) ∷ tokens_left t))
      × (p.line ≡ s.line.number) × (t.line ≡ s.line)
  TookBy s t None =
      (((u : Token) × (c : ℕ) × (reads u None) × (tokens_left s ≡ (told u, c) ∷ tokens_left t))
      ⊎ ((tokens_left s ≡ []) × (tokens_left t ≡ []))) × (t.line ≡ s.line)
