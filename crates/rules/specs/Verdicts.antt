-- The verdict on a rule file.
use Rattle.std.specs.Prelude.{◌≡◌, ℕ, ◌+◌, ◌-◌, ◌≤◌, min, Bool, true, false, cond, not, ◌&&◌, ◌||◌, List, [], ◌∷◌, length, codes, Option, nat_le, nat_lt}
use Rattle.std.specs.Str.{bytes_eq}
use Rattle.geometry.specs.Limits.{most_lines}
use Rattle.rows.specs.Parts.{most_parts}
use Rattle.text.specs.Findings.{or_else}
use Rattle.text.specs.Lines.{file_limit, lines_of}
use Rattle.text.specs.Tokens.{Lexeme, tokens_of}
use Rattle.text.specs.declared.placed.Placed.{Placed}
use Rattle.grammar.specs.Forms.{Form, material, rule, lot}
use Rattle.grammar.specs.Orders.{ordered}
use Rattle.grammar.specs.Wants.{Want, form, first_at, wrong_by}
use Rattle.grammar.specs.declared.state.FileKind.TheVariants.{Rules}
use Rattle.grammar.specs.declared.state.Naming.{Naming}
use Rattle.grammar.specs.declared.state.Naming.TheVariants.{Declared, Own, Material, Rule}
use Rattle.judge.specs.Files.{whole_file, verdict_from, InOrder, column_of, some}
use Rattle.judge.specs.Judged.{found, judged}
use Rattle.judge.specs.declared.faults.Fault.{Fault}
use Rattle.judge.specs.declared.faults.Fault.TheVariants.{FileTooLong, BadName, RuleNameUsed, TooMany}
use Rattle.forms.specs.Reads.{part_count}
use Rattle.rules.specs.Before.{Before, nothing, last_passes, parts_in, declared_in, own_in, after, added}

-- the most declared materials, and the most parts of all rule lines
abbrev pub most_materials : ℕ
most_materials = 15

abbrev pub all_parts : ℕ
all_parts = 256

-- a name stands in a list
abbrev pub among : List ℕ → List (List ℕ) → Bool
among w [] = false
among w (v ∷ vs) = bytes_eq v w || among w vs

-- it is the last of a list
abbrev pub last_is : List ℕ → List (List ℕ) → Bool
last_is w vs = last_passes (λ v. bytes_eq v w) vs

-- a material that is declared was not declared before; void counts as declared
abbrev pub fresh : List (List ℕ) → Naming → List ℕ → Bool
fresh ms Declared w = not (bytes_eq w (codes "void") || among w ms)
fresh ms Own w = true
fresh ms Material w = true
fresh ms Rule w = true

-- a rule line's own name was not used before, or goes on with the rule of the nearest earlier rule line, which has a guard
abbrev pub may_go_on : List (List ℕ) → Bool → Naming → List ℕ → Bool
may_go_on ns guarded Declared w = true
may_go_on ns guarded Own w = not (among w ns) || (last_is w ns && guarded)
may_go_on ns guarded Material w = true
may_go_on ns guarded Rule w = true

-- a material declared before
abbrev pub redeclared : List (List ℕ) → List Want → Lexeme → Bool
redeclared ms = wrong_by (λ r w. true) (fresh ms)

-- a rule line's name that was used before
abbrev pub reused : List (List ℕ) → Bool → List Want → Lexeme → Bool
reused ns guarded = wrong_by (λ r w. true) (may_go_on ns guarded)

-- how many parts the next line may have
abbrev pub part_room : Before → ℕ
part_room b = min most_parts (all_parts - b.parts)

-- the line declares a material though there are 15
abbrev pub material_too_many : Before → List ℕ → Bool
material_too_many b l = some (declared_in l) && nat_le most_materials (length b.materials)

-- the line is a rule line though there are 64
abbrev pub line_too_many : Before → List ℕ → Bool
line_too_many b l = some (own_in l) && nat_le most_lines (length b.names)

-- the opening bracket of a form too many: the line's own, or that of one of its parts
abbrev pub too_many : Before → List ℕ → Option ℕ
too_many b l =
    cond (material_too_many b l || line_too_many b l) (column_of 0 (tokens_of l)) (column_of (part_room b) (parts_in l))

-- what line n does wrong after what was left: the fault with the least number; a line that declares a material has one name, so
-- that a bad name and a material declared before have one place
abbrev pub line_fault : Before → ℕ → List ℕ → Option (Placed Fault)
line_fault b n l =
    or_else (judged Rules n l)
    (or_else (found BadName n (first_at (redeclared b.materials) (form Rules ∷ []) (tokens_of l)))
    (or_else (found RuleNameUsed n (first_at (reused b.names b.guarded) (form Rules ∷ []) (tokens_of l))) (found TooMany n (too_many b l))))

-- the verdict on a rule file
abbrev pub verdict : List ℕ → Option (Placed Fault)
verdict xs = cond (nat_lt file_limit (length xs)) (whole_file FileTooLong) (verdict_from line_fault after nothing 1 (lines_of xs))

-- a form that is none too many
abbrev pub Few : Before → Form → Type 0
Few b (material w) = length b.materials + 1 ≤ most_materials
Few b (rule w gs body) = (length b.names + 1 ≤ most_lines) × (part_count body ≤ part_room b)
Few b (lot px py pz sx sy sz w) = Unit {0}

-- a form that may come after what was left: its material is new, its rule goes on or is new, and it is none too many
pub record Good (b : Before) (f : Form) : Type 0 where
  pub new : ordered (λ r w. true) (fresh b.materials) f ≡ true
  pub grouped : ordered (λ r w. true) (may_go_on b.names b.guarded) f ≡ true
  pub few : Few b f

-- a rule file in order, in plain words
abbrev pub RulesInOrder : List ℕ → Type 0
RulesInOrder xs = (length xs ≤ file_limit) × InOrder Rules Good added nothing (lines_of xs)
