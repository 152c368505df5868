-- A part, as it is taken of a line.
use Rattle.std.specs.Prelude.{◌≡◌, ℕ, ◌≤◌, List, ◌∷◌, Some, None, codes, decimal, Option}
use Rattle.geometry.specs.Limits.{site, least}
use Rattle.rows.specs.Sizes.{amount, lowest, highest}
use Rattle.rows.specs.declared.size.Size.{Size}
use Rattle.rows.specs.declared.size.Size.TheVariants.{Fix, Float}
use Rattle.text.specs.Numbers.{number_in}
use Rattle.text.specs.Tokens.{Lexeme, closing, word, tokens_left}
use Rattle.text.specs.declared.placed.Placed.{Placed}
use Rattle.text.specs.declared.tokens.Tokens.{Tokens}
use Rattle.grammar.specs.Wants.{part, part_wants, weight_limit}
use Rattle.forms.specs.Clean.{Dead}
use Rattle.forms.specs.Taken.{Took, decimal_at}
use Rattle.forms.specs.Told.{placed_word}
use Rattle.forms.specs.declared.part.PartLine.{PartLine}
use Rattle.forms.specs.declared.words.Kind.{Kind}
use Rattle.forms.specs.declared.words.Kind.TheVariants.{Fix as FixKind, Float as FloatKind}

-- the word for each kind of part
abbrev pub kind_text : Kind → List ℕ
kind_text FixKind = codes "fix"
kind_text FloatKind = codes "float"

-- the least that it may ask for
abbrev pub low_of_kind : Kind → ℕ
low_of_kind FixKind = least
low_of_kind FloatKind = 1

-- and the most
abbrev pub high_of_kind : Kind → ℕ
high_of_kind FixKind = site
high_of_kind FloatKind = weight_limit

-- a part of this kind that asks for n
abbrev pub size_of : Kind → ℕ → Size
size_of FixKind n = Fix (record { 0 = n })
size_of FloatKind n = Float (record { 0 = n })

-- the word begins a part of this kind, or none
abbrev pub KindIn : List ℕ → Option Kind → Type 0
KindIn w (Some k) = w ≡ kind_text k
KindIn w None = part_wants w ≡ None

-- the kind as it stands in its line
abbrev pub kind_at : Kind → Lexeme
kind_at k = word (kind_text k)

-- the first word of a part
abbrev pub TookKind : Tokens → Tokens → Option (Placed Kind) → Type 0
TookKind s t (Some p) = Took kind_at s t p
TookKind s t None = Dead part (tokens_left s)

-- the kind of a size
abbrev pub kind_for : Size → Kind
kind_for (Fix m) = FixKind
kind_for (Float w) = FloatKind

-- a part after its bracket, its length or weight in range
pub record PartTo (s t : Tokens) (p : PartLine) : Type 0 where
  pub first : ℕ
  pub second : ℕ
  pub end : ℕ
  pub is :
      tokens_left s
      ≡ (kind_at (kind_for p.size), first) ∷ (decimal_at (amount p.size), second) ∷ placed_word p.name ∷ (closing, end) ∷ tokens_left t
  pub within : number_in (lowest p.size) (highest p.size) (decimal (amount p.size)) ≡ Some (amount p.size)
  pub low : lowest p.size ≤ amount p.size
  pub high : amount p.size ≤ highest p.size
  pub line : p.name.line ≡ s.line.number
  pub kept : t.line ≡ s.line

-- the same, or no part stands there
abbrev pub TookPart : Tokens → Tokens → Option PartLine → Type 0
TookPart s t (Some p) = PartTo s t p
TookPart s t None = Dead part (tokens_left s)
