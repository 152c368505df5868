-- The body of a rule line after its first word, as it is taken.
use Rattle.std.specs.Prelude.{◌≡◌, ℕ, ◌<◌, ◌≤◌, false, List, [], ◌∷◌, ◌++◌, map, length, Some, None, Option}
use Rattle.rows.specs.Parts.{most_parts}
use Rattle.text.specs.Tokens.{opening, closing, word, tokens_left}
use Rattle.text.specs.declared.tokens.Tokens.{Tokens}
use Rattle.grammar.specs.Forms.{spell_body, plain}
use Rattle.grammar.specs.Wants.{Want, name, shut}
use Rattle.grammar.specs.declared.state.Naming.{Naming}
use Rattle.forms.specs.Clean.{clean}
use Rattle.forms.specs.Fronts.{head_text, body_wants}
use Rattle.forms.specs.Met.{met, is_named}
use Rattle.forms.specs.Reads.{InLine, use_room}
use Rattle.forms.specs.Splits.{Grew, Roomy}
use Rattle.forms.specs.Told.{Name, placed_word, body_of, uses_of}
use Rattle.forms.specs.declared.shape.Shape.{Shape}
use Rattle.forms.specs.declared.words.Head.{Head}

-- a name and a closing bracket were read, and the name stands at the end of those used
pub record UseTo (before after : List Name) (s t : Tokens) : Type 0 where
  pub last : Name
  pub end : ℕ
  pub is : tokens_left s ≡ placed_word last ∷ (closing, end) ∷ tokens_left t
  pub grown : after ≡ before ++ last ∷ []
  pub line : last.line ≡ s.line.number
  pub kept : t.line ≡ s.line

-- the same; or nothing is added, and no name and bracket stand there or there is no room
abbrev pub TookUse : List Name → List Name → Tokens → Tokens → Option (Unit {0}) → Type 0
TookUse before after s t (Some u) = UseTo before after s t
TookUse before after s t None =
    (after ≡ before)
    × (length before < use_room
    → (n : Naming) (k : ℕ) (xs : List Want) → clean k (name n ∷ shut ∷ xs) (plain (tokens_left s)) ≡ false)

-- a body was read from after its first word on, and the names that it uses stand at the end of those used
pub record BodyTo (h : Head) (room : ℕ) (before after : List Name) (s t : Tokens) (b : Shape) : Type 0 where
  pub used : List Name
  pub grown : after ≡ before ++ used
  pub counted : length used ≡ uses_of b
  pub few : length used ≤ most_parts
  pub spelled : opening ∷ word (head_text h) ∷ plain (tokens_left s) ≡ spell_body (body_of b used) (plain (tokens_left t))
  pub named : (xs : List Want) → met is_named (body_wants h ++ xs) (tokens_left s) ≡ map placed_word used ++ met is_named xs (tokens_left t)
  pub rest : ℕ
  pub passed : (xs : List Want) → clean room (body_wants h ++ xs) (plain (tokens_left s)) ≡ clean rest xs (plain (tokens_left t))
  pub placed : InLine s.line.number used
  pub kept : t.line ≡ s.line

-- the same; or no such body stands there or there is no room
abbrev pub TookBody : Head → ℕ → List Name → List Name → Tokens → Tokens → Option Shape → Type 0
TookBody h room before after s t (Some b) = BodyTo h room before after s t b
TookBody h room before after s t None =
    Grew before after × (Roomy room before → (xs : List Want) → clean room (body_wants h ++ xs) (plain (tokens_left s)) ≡ false)
