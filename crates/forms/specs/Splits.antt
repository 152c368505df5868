-- The parts of a split, as they are taken.
use Rattle.std.specs.Prelude.{◌≡◌, ℕ, ◌+◌, ◌-◌, ◌<◌, ◌≤◌, false, List, [], ◌∷◌, ◌++◌, map, length, Some, None, Option}
use Rattle.rows.specs.Parts.{most_parts}
use Rattle.rows.specs.Rows.{parts_of}
use Rattle.rows.specs.Sizes.{amount, lowest, highest}
use Rattle.rows.specs.declared.part.Part.{Part}
use Rattle.rows.specs.declared.parts.Parts.{Parts}
use Rattle.text.specs.Tokens.{Lexeme, opening, closing, tokens_left}
use Rattle.text.specs.declared.placed.Placed.{Placed}
use Rattle.text.specs.declared.tokens.Tokens.{Tokens}
use Rattle.grammar.specs.Forms.{spell_parts, plain}
use Rattle.grammar.specs.Wants.{Want, more, part}
use Rattle.forms.specs.Clean.{clean, Dead}
use Rattle.forms.specs.Met.{met, is_named}
use Rattle.forms.specs.Reads.{InLine, use_room}
use Rattle.forms.specs.Taken.{Took}
use Rattle.forms.specs.Told.{Name, part_forms, placed_word}
use Rattle.forms.specs.declared.part.PartLine.{PartLine}
use Rattle.forms.specs.declared.words.Bracket.{Bracket}
use Rattle.forms.specs.declared.words.Bracket.TheVariants.{Open, Close}

-- a bracket as it stands in its line
abbrev pub bracket_at : Bracket → Lexeme
bracket_at Open = opening
bracket_at Close = closing

-- the bracket after a part
abbrev pub TookMore : Tokens → Tokens → Option (Placed Bracket) → Type 0
TookMore s t (Some p) = Took bracket_at s t p
TookMore s t None = Dead more (tokens_left s)

-- a part stands at the end of the parts, and its name at the end of the names
pub record Added (p : PartLine) (ps qs : Parts) (us vs : List Name) : Type 0 where
  pub new : Part
  pub same : new.size ≡ p.size
  pub parts : parts_of qs ≡ parts_of ps ++ new ∷ []
  pub names : vs ≡ us ++ p.name ∷ []

-- the same; or no name is added, and the part is out of range or there is no room
abbrev pub AddedPart : PartLine → Parts → Parts → List Name → List Name → Option (Unit {0}) → Type 0
AddedPart p ps qs us vs (Some u) = Added p ps qs us vs
AddedPart p ps qs us vs None =
    (vs ≡ us)
    × (lowest p.size ≤ amount p.size → amount p.size ≤ highest p.size → length (parts_of ps) < most_parts → length us < use_room → ⊥)

-- names stand at the end of those before
pub record Grew (before after : List Name) : Type 0 where
  pub used : List Name
  pub grown : after ≡ before ++ used

-- parts were read after the first bracket, from s on, and us are left
pub record PartsPast (room : ℕ) (before after : List Name) (s : Tokens) (us : List (Lexeme × ℕ)) (ps : Parts) : Type 0 where
  pub used : List Name
  pub grown : after ≡ before ++ used
  pub counted : length used ≡ length (parts_of ps)
  pub fits : length (parts_of ps) ≤ room
  pub spelled : opening ∷ plain (tokens_left s) ≡ spell_parts (part_forms (parts_of ps) used) (plain us)
  pub named : (xs : List Want) → met is_named (part ∷ more ∷ xs) (tokens_left s) ≡ map placed_word used ++ met is_named (more ∷ xs) us
  pub passed : (xs : List Want) → clean room (part ∷ more ∷ xs) (plain (tokens_left s)) ≡ clean (room - length (parts_of ps)) (more ∷ xs) (plain us)
  pub placed : InLine s.line.number used

-- the same, and the bracket of the next part was read
pub record PartsIn (room : ℕ) (before after : List Name) (s t : Tokens) (ps : Parts) : Type 0 where
  pub column : ℕ
  pub past : PartsPast room before after s ((opening, column) ∷ tokens_left t) ps
  pub kept : t.line ≡ s.line

-- all parts were read, and the bracket that ends the split
pub record PartsTo (room : ℕ) (before after : List Name) (s t : Tokens) (ps : Parts) : Type 0 where
  pub column : ℕ
  pub past : PartsPast room before after s ((closing, column) ∷ tokens_left t) ps
  pub some : 1 ≤ length (parts_of ps)
  pub kept : t.line ≡ s.line

-- there is room for the names of every line with so many parts
abbrev pub Roomy : ℕ → List Name → Type 0
Roomy room before = (room ≤ most_parts) × (length before + most_parts ≤ use_room)

-- the parts of a split, or none stand there
abbrev pub TookParts : ℕ → List Name → List Name → Tokens → Tokens → Option Parts → Type 0
TookParts room before after s t (Some ps) = PartsTo room before after s t ps
TookParts room before after s t None =
    Grew before after
    × (Roomy room before → (xs : List Want) → clean room (part ∷ more ∷ xs) (plain (tokens_left s)) ≡ false)
