-- What it is to read a line.
use Rattle.std.specs.Prelude.{◌≡◌, ℕ, ◌+◌, ◌<◌, ◌≤◌, true, List, [], ◌∷◌, ◌++◌, map, length, Some, None, Option, ◌≢◌}
use Rattle.rows.specs.Parts.{most_parts}
use Rattle.text.specs.Tokens.{tokens_of}
use Rattle.grammar.specs.Forms.{Guard, Body, make, refer, tile, split, Form, material, rule, Fits, spell, plain}
use Rattle.grammar.specs.Orders.{good_numbers}
use Rattle.grammar.specs.declared.state.FileKind.{FileKind}
use Rattle.grammar.specs.declared.state.FileKind.TheVariants.{Rules, Lots}
use Rattle.forms.specs.Met.{names_in}
use Rattle.forms.specs.Told.{Name, bytes_of, placed_word, uses_of, rule_of, lot_of}
use Rattle.forms.specs.Taken.{LotRanged}
use Rattle.forms.specs.declared.lot.LotLine.{LotLine}
use Rattle.forms.specs.declared.rule.RuleLine.{RuleLine}

-- names of line n
abbrev pub InLine : ℕ → List Name → Type 0
InLine n [] = Unit {0}
InLine n (m ∷ ms) = (m.line ≡ n) × InLine n ms

-- line n spells the form, and these are its names with their places
pub record Says (k : FileKind) (n : ℕ) (l : List ℕ) (f : Form) (ms : List Name) : Type 0 where
  pub spelled : plain (tokens_of l) ≡ spell f
  pub named : names_in k l ≡ map placed_word ms
  pub placed : InLine n ms

-- a material line was read; or the line is none
abbrev pub MaterialRead : ℕ → List ℕ → Option Name → Type 0
MaterialRead n l (Some m) = Says Rules n l (material (bytes_of m)) (m ∷ [])
MaterialRead n l None = (w : List ℕ) → plain (tokens_of l) ≢ spell (material w)

-- how many parts a body has
abbrev pub part_count : Body → ℕ
part_count (make w) = 0
part_count (refer w) = 0
part_count (tile a n w) = 0
part_count (split a p ps) = length ps + 1

-- the most rule lines of a file
abbrev pub name_room : ℕ
name_room = 64

-- room for the names that so many lines can use
abbrev pub use_room : ℕ
use_room = 1024

-- a rule line was read: its name stands at the end of the names, the names that it uses at the end of those used
pub record RuleRead (n : ℕ) (l : List ℕ) (names names' uses uses' : List Name) (r : RuleLine) : Type 0 where
  pub own : Name
  pub used : List Name
  pub named : names' ≡ names ++ own ∷ []
  pub grown : uses' ≡ uses ++ used
  pub from : r.from ≡ length uses
  pub counted : length used ≡ uses_of r.body
  pub few : length used ≤ most_parts
  pub says : Says Rules n l (rule_of own r used) (own ∷ used)

-- the line is no rule line with good numbers and at most so many parts, or there is no room for its names
abbrev pub NoRule : List ℕ → ℕ → List Name → List Name → Type 0
NoRule l room names uses =
    (w : List ℕ) (gs : List Guard) (b : Body) → Fits Rules (rule w gs b) → good_numbers (rule w gs b) ≡ true → part_count b ≤ room
    → part_count b ≤ most_parts → length names < name_room → length uses + most_parts ≤ use_room → plain (tokens_of l) ≢ spell (rule w gs b)

-- a rule line was read; or nothing was altered, and the line is none
abbrev pub RuleLineRead : ℕ → List ℕ → ℕ → List Name → List Name → List Name → List Name → Option RuleLine → Type 0
RuleLineRead n l room names names' uses uses' (Some r) = RuleRead n l names names' uses uses' r
RuleLineRead n l room names names' uses uses' None = (names' ≡ names) × (uses' ≡ uses) × (NoRule l room names uses)

-- a lot was read, its numbers in their ranges; or the line spells none with good numbers
abbrev pub LotRead : ℕ → List ℕ → Option LotLine → Type 0
LotRead n l (Some r) = Says Lots n l (lot_of r) (r.name ∷ []) × LotRanged r
LotRead n l None = (f : Form) → Fits Lots f → good_numbers f ≡ true → plain (tokens_of l) ≢ spell f
