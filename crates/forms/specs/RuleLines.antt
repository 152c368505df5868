-- A rule line, as it is taken.
use Rattle.std.specs.Prelude.{◌≡◌, ℕ, ◌<◌, ◌≤◌, false, List, [], ◌∷◌, ◌++◌, map, length, take, Some, None, Option}
use Rattle.rows.specs.Parts.{most_parts}
use Rattle.text.specs.Tokens.{closing, tokens_left}
use Rattle.text.specs.declared.tokens.Tokens.{Tokens}
use Rattle.grammar.specs.Forms.{spell_guards, spell_body, guard_limit, plain}
use Rattle.grammar.specs.Wants.{name, shut, items}
use Rattle.grammar.specs.declared.state.Naming.TheVariants.{Own}
use Rattle.forms.specs.Clean.{clean}
use Rattle.forms.specs.Met.{met, is_named}
use Rattle.forms.specs.Reads.{InLine, name_room, RuleRead, NoRule}
use Rattle.forms.specs.Splits.{Grew, Roomy}
use Rattle.forms.specs.Told.{Name, placed_word, guard_of, guards_of, body_of, uses_of}
use Rattle.forms.specs.declared.front.Front.{Front}
use Rattle.forms.specs.declared.rule.RuleLine.{RuleLine}
use Rattle.forms.specs.declared.shape.Shape.{Shape}

-- a rule line of these guards and this body
pub record Joins (f : Front) (b : Shape) (from : ℕ) (r : RuleLine) : Type 0 where
  pub guards : r.guards ≡ f.guards
  pub body : r.body ≡ b
  pub start : r.from ≡ from

-- guards and a body were read up to the end of the line, and the names that the body uses stand at the end of those used
pub record ItemsTo (before after : List Name) (s : Tokens) (r : RuleLine) : Type 0 where
  pub used : List Name
  pub grown : after ≡ before ++ used
  pub from : r.from ≡ length before
  pub counted : length used ≡ uses_of r.body
  pub few : length used ≤ most_parts
  pub spelled : plain (tokens_left s) ≡ spell_guards (map guard_of (guards_of r)) (spell_body (body_of r.body used) (closing ∷ []))
  pub named : met is_named (items guard_limit ∷ shut ∷ []) (tokens_left s) ≡ map placed_word used
  pub placed : InLine s.line.number used

-- the same; or no guards and body stand there or there is no room
abbrev pub TookItems : ℕ → List Name → List Name → Tokens → Option RuleLine → Type 0
TookItems room before after s (Some r) = ItemsTo before after s r
TookItems room before after s None =
    Grew before after × (Roomy room before → clean room (items guard_limit ∷ shut ∷ []) (plain (tokens_left s)) ≡ false)

-- a name, guards and a body were read up to the end of the line, and the name stands at the end of the names
pub record RuleTo (names names' uses uses' : List Name) (s : Tokens) (r : RuleLine) : Type 0 where
  pub own : Name
  pub rest : Tokens
  pub is : tokens_left s ≡ placed_word own ∷ tokens_left rest
  pub line : own.line ≡ s.line.number
  pub kept : rest.line ≡ s.line
  pub grown : names' ≡ names ++ own ∷ []
  pub items : ItemsTo uses uses' rest r

-- the same; or the names are as they were, and no rule line goes on so or there is no room
abbrev pub TookRule : ℕ → List Name → List Name → List Name → List Name → Tokens → Option RuleLine → Type 0
TookRule room names names' uses uses' s (Some r) = RuleTo names names' uses uses' s r
TookRule room names names' uses uses' s None =
    (names' ≡ names) × (Grew uses uses')
    × (length names < name_room → Roomy room uses
    → clean room (name Own ∷ items guard_limit ∷ shut ∷ []) (plain (tokens_left s)) ≡ false)

-- a rule line was read; or the names are as they were, those used begin with what they were, and the line is none or there is no room
abbrev pub RuleIn : ℕ → List ℕ → ℕ → List Name → List Name → List Name → List Name → Option RuleLine → Type 0
RuleIn n l room names names' uses uses' (Some r) = RuleRead n l names names' uses uses' r
RuleIn n l room names names' uses uses' None = (names' ≡ names) × (take (length uses) uses' ≡ uses) × (NoRule l room names uses)
