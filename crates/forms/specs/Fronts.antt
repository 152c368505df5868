-- The guards of a rule line, as they are taken up to the word that begins its body.
use Rattle.std.specs.Prelude.{◌≡◌, ℕ, ◌-◌, ◌≤◌, false, List, [], ◌∷◌, ◌++◌, map, length, Some, None, codes, decimal, Option}
use Rattle.geometry.specs.Limits.{site}
use Rattle.bounded.specs.Listed.{listed}
use Rattle.book.specs.declared.guard.Guard.{Guard}
use Rattle.text.specs.Numbers.{number_in}
use Rattle.text.specs.Tokens.{opening, closing, word, tokens_left}
use Rattle.text.specs.declared.tokens.Tokens.{Tokens}
use Rattle.grammar.specs.Forms.{spell_guards, guard_limit, plain}
use Rattle.grammar.specs.Wants.{Want, name, axis, range, shut, items, parts, size, item_wants}
use Rattle.grammar.specs.declared.state.Naming.TheVariants.{Material, Rule}
use Rattle.forms.specs.Clean.{clean, Dead}
use Rattle.forms.specs.Met.{met, is_named}
use Rattle.forms.specs.Taken.{decimal_at, axis_at}
use Rattle.forms.specs.Told.{guard_of}
use Rattle.forms.specs.declared.front.Front.{Front}
use Rattle.forms.specs.declared.words.Head.{Head}
use Rattle.forms.specs.declared.words.Head.TheVariants.{Make, Use, Repeat, Split}
use Rattle.forms.specs.declared.words.Item.{Item}
use Rattle.forms.specs.declared.words.Item.TheVariants.{Guard as GuardItem, Body as BodyItem}

-- a guard after its first word, LOW and HIGH in their ranges
pub record GuardTo (s t : Tokens) (g : Guard) : Type 0 where
  pub first : ℕ
  pub second : ℕ
  pub third : ℕ
  pub end : ℕ
  pub is :
      tokens_left s
      ≡ (axis_at g.axis, first) ∷ (decimal_at g.low.0, second) ∷ (decimal_at g.high.0, third) ∷ (closing, end) ∷ tokens_left t
  pub low : number_in 1 site (decimal g.low.0) ≡ Some g.low.0
  pub high : number_in g.low.0 site (decimal g.high.0) ≡ Some g.high.0
  pub kept : t.line ≡ s.line

-- the same, or nothing that wants these can go on
abbrev pub TookGuard : Tokens → Tokens → Option Guard → Type 0
TookGuard s t (Some g) = GuardTo s t g
TookGuard s t None = (k : ℕ) (xs : List Want) → clean k (axis ∷ range ∷ shut ∷ xs) (plain (tokens_left s)) ≡ false

-- the word that begins each body
abbrev pub head_text : Head → List ℕ
head_text Make = codes "make"
head_text Use = codes "use"
head_text Repeat = codes "repeat"
head_text Split = codes "split"

-- what is wanted of a body after that word
abbrev pub body_wants : Head → List Want
body_wants Make = name Material ∷ shut ∷ []
body_wants Use = name Rule ∷ shut ∷ []
body_wants Repeat = axis ∷ size ∷ name Rule ∷ shut ∷ []
body_wants Split = axis ∷ parts ∷ []

-- the word that begins a guard or a body
abbrev pub item_text : Item → List ℕ
item_text GuardItem = codes "when"
item_text (BodyItem h) = head_text h

-- the word begins this, or neither a guard nor a body
abbrev pub ItemIn : List ℕ → Option Item → Type 0
ItemIn w (Some i) = w ≡ item_text i
ItemIn w None = (k : ℕ) → item_wants k w ≡ None

-- a bracket and the word after it
pub record ItemTo (s t : Tokens) (i : Item) : Type 0 where
  pub outer : ℕ
  pub inner : ℕ
  pub is : tokens_left s ≡ (opening, outer) ∷ (word (item_text i), inner) ∷ tokens_left t
  pub kept : t.line ≡ s.line

-- the same, or neither a guard nor a body stands there
abbrev pub TookItem : Tokens → Tokens → Option Item → Type 0
TookItem s t (Some i) = ItemTo s t i
TookItem s t None = (k : ℕ) → Dead (items k) (tokens_left s)

-- guards were read from s on, those of t are left
pub record GuardsIn (s t : Tokens) (gs : List Guard) : Type 0 where
  pub spelled : plain (tokens_left s) ≡ spell_guards (map guard_of gs) (plain (tokens_left t))
  pub named : (xs : List Want) → met is_named (items guard_limit ∷ xs) (tokens_left s) ≡ met is_named (items (guard_limit - length gs) ∷ xs) (tokens_left t)
  pub passed :
      (k : ℕ) (xs : List Want)
      → clean k (items guard_limit ∷ xs) (plain (tokens_left s)) ≡ clean k (items (guard_limit - length gs) ∷ xs) (plain (tokens_left t))
  pub few : length gs ≤ guard_limit
  pub kept : t.line ≡ s.line

-- all guards were read, and the bracket and the first word of the body
pub record GuardsTo (s t : Tokens) (f : Front) : Type 0 where
  pub spelled :
      plain (tokens_left s)
      ≡ spell_guards (map guard_of (listed f.guards)) (opening ∷ word (head_text f.head) ∷ plain (tokens_left t))
  pub named : (xs : List Want) → met is_named (items guard_limit ∷ xs) (tokens_left s) ≡ met is_named (body_wants f.head ++ xs) (tokens_left t)
  pub passed :
      (k : ℕ) (xs : List Want)
      → clean k (items guard_limit ∷ xs) (plain (tokens_left s)) ≡ clean k (body_wants f.head ++ xs) (plain (tokens_left t))
  pub kept : t.line ≡ s.line

-- the same, or no guards and body stand there
abbrev pub TookGuards : Tokens → Tokens → Option Front → Type 0
TookGuards s t (Some f) = GuardsTo s t f
TookGuards s t None = Dead (items guard_limit) (tokens_left s)
