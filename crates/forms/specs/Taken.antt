-- What is taken of a line, token by token.
use Rattle.std.specs.Prelude.{◌≡◌, ℕ, ◌-◌, ◌≤◌, false, List, [], ◌∷◌, Some, None, decimal, Option, ◌≢◌}
use Rattle.geometry.specs.Limits.{site, least}
use Rattle.geometry.specs.declared.axis.Axis.{Axis}
use Rattle.geometry.specs.declared.triple.Triple.{Triple}
use Rattle.text.specs.Numbers.{number_in}
use Rattle.text.specs.Takes.{open_at, close_at, word_at}
use Rattle.text.specs.Tokens.{Lexeme, opening, closing, number, word, tokens_left}
use Rattle.text.specs.Words.{is_axis}
use Rattle.text.specs.declared.placed.Placed.{Placed}
use Rattle.text.specs.declared.tokens.Tokens.{Tokens}
use Rattle.grammar.specs.Forms.{axis_text, plain}
use Rattle.grammar.specs.Wants.{Want, name, num, axis, shut, parts, corner, size}
use Rattle.grammar.specs.declared.state.Naming.{Naming}
use Rattle.grammar.specs.declared.state.Naming.TheVariants.{Declared, Rule}
use Rattle.forms.specs.Clean.{clean, Dead}
use Rattle.forms.specs.Told.{Name, axis_of, placed_word}
use Rattle.forms.specs.declared.lot.LotLine.{LotLine}

-- the first token of s stands at the place, and those of t are left
pub record Took {X : Type 0} (kind : X → Lexeme) (s t : Tokens) (p : Placed X) : Type 0 where
  pub is : tokens_left s ≡ (kind p.value, p.column) ∷ tokens_left t
  pub line : p.line ≡ s.line.number
  pub kept : t.line ≡ s.line

-- an opening bracket, where parts are wanted
abbrev pub TookOpen : Tokens → Tokens → Option (Placed (Unit {0})) → Type 0
TookOpen s t (Some p) = Took open_at s t p
TookOpen s t None = Dead parts (tokens_left s)

-- a closing bracket
abbrev pub TookClose : Tokens → Tokens → Option (Placed (Unit {0})) → Type 0
TookClose s t (Some p) = Took close_at s t p
TookClose s t None = Dead shut (tokens_left s)

-- a name
abbrev pub TookName : Tokens → Tokens → Option Name → Type 0
TookName s t (Some n) = Took word_at s t n
TookName s t None = (n : Naming) → Dead (name n) (tokens_left s)

-- a number as it stands in its line
abbrev pub decimal_at : ℕ → Lexeme
decimal_at n = number (decimal n)

-- a number from low to high
abbrev pub TookNumber : ℕ → ℕ → Tokens → Tokens → Option (Placed ℕ) → Type 0
TookNumber low high s t (Some p) =
    (Took decimal_at s t p) × (number_in low high (decimal p.value) ≡ Some p.value) × (low ≤ p.value) × (p.value ≤ high)
TookNumber low high s t None = Dead (num low high) (tokens_left s)

-- an axis as it stands in its line
abbrev pub axis_at : Axis → Lexeme
axis_at a = word (axis_text (axis_of a))

-- the word is this axis, or none
abbrev pub AxisIn : List ℕ → Option Axis → Type 0
AxisIn w (Some a) = w ≡ axis_text (axis_of a)
AxisIn w None = is_axis w ≡ false

-- an axis
abbrev pub TookAxis : Tokens → Tokens → Option (Placed Axis) → Type 0
TookAxis s t (Some p) = Took axis_at s t p
TookAxis s t None = Dead axis (tokens_left s)

-- an opening bracket and then the word w
pub record Headed (w : List ℕ) (s t : Tokens) : Type 0 where
  pub outer : ℕ
  pub inner : ℕ
  pub is : tokens_left s ≡ (opening, outer) ∷ (word w, inner) ∷ tokens_left t
  pub kept : t.line ≡ s.line

-- the same, or the tokens do not begin so
abbrev pub TookHead : List ℕ → Tokens → Tokens → Option (Unit {0}) → Type 0
TookHead w s t (Some u) = Headed w s t
TookHead w s t None = (ts : List Lexeme) → plain (tokens_left s) ≢ opening ∷ word w ∷ ts

-- the end of the line
abbrev pub TookEnd : Tokens → Option (Unit {0}) → Type 0
TookEnd s (Some u) = tokens_left s ≡ []
TookEnd s None = (k : ℕ) → clean k [] (plain (tokens_left s)) ≡ false

-- a name and then a closing bracket
pub record LastName (s t : Tokens) (n : Name) : Type 0 where
  pub end : ℕ
  pub is : tokens_left s ≡ placed_word n ∷ (closing, end) ∷ tokens_left t
  pub line : n.line ≡ s.line.number
  pub kept : t.line ≡ s.line

-- the same, or nothing that wants these can go on
abbrev pub TookLastName : Tokens → Tokens → Option Name → Type 0
TookLastName s t (Some n) = LastName s t n
TookLastName s t None = (n : Naming) (k : ℕ) (xs : List Want) → clean k (name n ∷ shut ∷ xs) (plain (tokens_left s)) ≡ false

-- three numbers lie from low to high
pub record Between (low high : ℕ) (r : Triple) : Type 0 where
  pub low_x : low ≤ r.x.0
  pub low_y : low ≤ r.y.0
  pub low_z : low ≤ r.z.0
  pub high_x : r.x.0 ≤ high
  pub high_y : r.y.0 ≤ high
  pub high_z : r.z.0 ≤ high

-- three numbers from low to high
pub record Tripled (low high : ℕ) (s t : Tokens) (r : Triple) : Type 0 where
  pub first : ℕ
  pub second : ℕ
  pub third : ℕ
  pub is : tokens_left s ≡ (decimal_at r.x.0, first) ∷ (decimal_at r.y.0, second) ∷ (decimal_at r.z.0, third) ∷ tokens_left t
  pub in_x : number_in low high (decimal r.x.0) ≡ Some r.x.0
  pub in_y : number_in low high (decimal r.y.0) ≡ Some r.y.0
  pub in_z : number_in low high (decimal r.z.0) ≡ Some r.z.0
  pub ranged : Between low high r
  pub kept : t.line ≡ s.line

-- the same, or nothing that wants these can go on
abbrev pub TookTriple : ℕ → ℕ → Tokens → Tokens → Option Triple → Type 0
TookTriple low high s t (Some r) = Tripled low high s t r
TookTriple low high s t None =
    (k : ℕ) (xs : List Want) → clean k (num low high ∷ num low high ∷ num low high ∷ xs) (plain (tokens_left s)) ≡ false

-- a material's name ends the line; or what is wanted there does not stand there
abbrev pub MaterialRest : Tokens → Option Name → Type 0
MaterialRest s (Some n) = ((c : ℕ) × (tokens_left s ≡ placed_word n ∷ (closing, c) ∷ [])) × (n.line ≡ s.line.number)
MaterialRest s None = clean 0 (name Declared ∷ shut ∷ []) (plain (tokens_left s)) ≡ false

-- what is wanted of a lot after its first word
abbrev pub lot_wants : List Want
lot_wants = corner ∷ corner ∷ corner ∷ size ∷ size ∷ size ∷ name Rule ∷ shut ∷ []

-- the numbers of a lot lie in their ranges
pub record LotRanged (l : LotLine) : Type 0 where
  pub corner_x : l.corner.x.0 ≤ site - 1
  pub corner_y : l.corner.y.0 ≤ site - 1
  pub corner_z : l.corner.z.0 ≤ site - 1
  pub low_x : least ≤ l.size.x.0
  pub low_y : least ≤ l.size.y.0
  pub low_z : least ≤ l.size.z.0
  pub high_x : l.size.x.0 ≤ site
  pub high_y : l.size.y.0 ≤ site
  pub high_z : l.size.z.0 ≤ site

-- a lot after its first word, up to the end of the line
pub record LotTo (s : Tokens) (l : LotLine) : Type 0 where
  pub in_px : ℕ
  pub in_py : ℕ
  pub in_pz : ℕ
  pub in_sx : ℕ
  pub in_sy : ℕ
  pub in_sz : ℕ
  pub end : ℕ
  pub is :
      tokens_left s
      ≡ (decimal_at l.corner.x.0, in_px) ∷ (decimal_at l.corner.y.0, in_py) ∷ (decimal_at l.corner.z.0, in_pz)
      ∷ (decimal_at l.size.x.0, in_sx) ∷ (decimal_at l.size.y.0, in_sy) ∷ (decimal_at l.size.z.0, in_sz)
      ∷ placed_word l.name ∷ (closing, end) ∷ []
  pub line : l.name.line ≡ s.line.number
  pub ranged : LotRanged l

-- the same; or what is wanted there does not stand there
abbrev pub LotRest : Tokens → Option LotLine → Type 0
LotRest s (Some l) = LotTo s l
LotRest s None = clean 0 lot_wants (plain (tokens_left s)) ≡ false
