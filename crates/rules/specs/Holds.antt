-- What a book holds of the lines that were read into it.
use Rattle.rules.specs.declared.rule_book.Book.{Book}
use Rattle.std.specs.Prelude.{◌≡◌, ℕ, ◌+◌, ◌*◌, ◌≤◌, Bool, true, ◌&&◌, ◌⊎◌, List, [], ◌∷◌, ◌++◌, length, Some, None, Option, Ok, Err, Result, refl, ◌==◌, nat_le, nat_lt}
use Rattle.std.proofs.Common.{lit≤}
use Rattle.geometry.specs.Limits.{most_lines}
use Rattle.rows.specs.Parts.{most_parts}
use Rattle.rows.specs.Rows.{parts_of as row_parts}
use Rattle.text.specs.Lines.{is_blank, lines_of}
use Rattle.text.specs.declared.placed.Placed.{Placed}
use Rattle.text.specs.Tokens.{tokens_of}
use Rattle.grammar.specs.Forms.{Guard, Body, Form, material, rule, spell, plain}
use Rattle.grammar.specs.declared.state.FileKind.TheVariants.{Rules}
use Rattle.judge.specs.Files.{Spells, Leads, verdict_from}
use Rattle.judge.specs.declared.faults.Fault.{Fault}
use Rattle.book.specs.Checks.{every}
use Rattle.forms.specs.Reads.{Says}
use Rattle.forms.specs.Told.{Name, bytes_of, uses_of, rule_of, used_by}
use Rattle.forms.specs.declared.rule.RuleLine.{RuleLine}
use Rattle.forms.specs.declared.shape.Shape.{Shape}
use Rattle.forms.specs.declared.shape.Shape.TheVariants.{Make, Use, Repeat, Split}
use Rattle.rules.specs.Before.{left_by, after}
use Rattle.rules.specs.Pages.{no_pages}
use Rattle.rules.specs.Verdicts.{most_materials, all_parts, line_fault, Few}

-- how many parts a body has
abbrev pub parts_of : Shape → ℕ
parts_of Make = 0
parts_of Use = 0
parts_of (Repeat a t) = 0
parts_of (Split a p) = length (row_parts p)

-- a book with one material more
abbrev pub with_material : Book → Name → Book
with_material p m = record {
  materials = p.materials ++ m ∷ [];
  names = p.names;
  lines = p.lines;
  uses = p.uses;
  parts = p.parts;
}

-- a book with one rule line more, of that name, which uses these names
abbrev pub with_rule : Book → Name → RuleLine → List Name → Book
with_rule p own r used = record {
  materials = p.materials;
  names = p.names ++ own ∷ [];
  lines = p.lines ++ r ∷ [];
  uses = p.uses ++ used;
  parts = p.parts + parts_of r.body;
}

-- line n is a rule line, which stands at the end of the book
pub record RuleAdded (n : ℕ) (l : List ℕ) (p q : Book) : Type 0 where
  pub own : Name
  pub line : RuleLine
  pub used : List Name
  pub says : Says Rules n l (rule_of own line used) (own ∷ used)
  pub from : line.from ≡ length p.uses
  pub counted : length used ≡ uses_of line.body
  pub grown : q ≡ with_rule p own line used

-- line n declares a material, which stands at the end of the book
pub record MaterialAdded (n : ℕ) (l : List ℕ) (p q : Book) : Type 0 where
  pub declared : Name
  pub says : Says Rules n l (material (bytes_of declared)) (declared ∷ [])
  pub grown : q ≡ with_material p declared

-- line n takes a book from p to q: it is blank, declares a material, or is a rule line
abbrev pub Grown : ℕ → List ℕ → Book → Book → Type 0
Grown n l p q = ((is_blank l ≡ true) × (q ≡ p)) ⊎ (MaterialAdded n l p q ⊎ RuleAdded n l p q)

-- all names that a rule line uses are there
abbrev pub complete : List Name → RuleLine → Bool
complete us r = length (used_by us r) == uses_of r.body

-- a book as reading leaves it: a name for each line, no more lines and materials than may be, and all names that lines use
abbrev pub fits : Book → Bool
fits p =
    (length p.names == length p.lines)
    && (nat_le (length p.lines) most_lines && (nat_le (length p.materials) most_materials && every (complete p.uses) p.lines))

-- the names that a rule line uses end within the first n
abbrev pub inside : ℕ → RuleLine → Bool
inside n r = nat_le (r.from + uses_of r.body) n

-- what holds of a book while it is read
pub record Fitting (p : Book) : Type 0 where
  pub paired : length p.names ≡ length p.lines
  pub lines : length p.lines ≤ most_lines
  pub materials : length p.materials ≤ most_materials
  pub whole : every (inside (length p.uses)) p.lines ≡ true
  pub spare : length p.uses ≤ most_parts * length p.lines
  pub parts : p.parts ≤ all_parts

-- there is room for another rule line, and its parts can be counted
abbrev pub has_room : Book → Bool
has_room p = nat_lt (length p.lines) most_lines && nat_le p.parts all_parts

-- a material line was added; or nothing was, for want of room or because the line declares none
abbrev pub MaterialTaken : ℕ → List ℕ → Book → Book → Option (Unit {0}) → Type 0
MaterialTaken n l p q (Some u) = MaterialAdded n l p q
MaterialTaken n l p q None = (q ≡ p) × ((w : List ℕ) → plain (tokens_of l) ≡ spell (material w) → most_materials ≤ length p.materials)

-- a rule line was added; or nothing was, for want of room or because the line is no rule line
abbrev pub RuleTaken : ℕ → List ℕ → Book → Book → Option (Unit {0}) → Type 0
RuleTaken n l p q (Some u) = RuleAdded n l p q
RuleTaken n l p q None =
    (q ≡ p) × ((w : List ℕ) (gs : List Guard) (b : Body) → Spells Rules l (rule w gs b) → Few (left_by p) (rule w gs b) → Fitting p → ⊥)

-- a form was added; or nothing was, for want of room or because the line is none
abbrev pub FormTaken : ℕ → List ℕ → Book → Book → Option (Unit {0}) → Type 0
FormTaken n l p q (Some u) = MaterialAdded n l p q ⊎ RuleAdded n l p q
FormTaken n l p q None = (q ≡ p) × ((f : Form) → Spells Rules l f → Few (left_by p) f → Fitting p → ⊥)

-- the verdict on lines from the n-th on after what the book leaves
abbrev pub verdict_after : Book → ℕ → List (List ℕ) → Option (Placed Fault)
verdict_after p = verdict_from line_fault after (left_by p)

-- an empty book fits
pub fitting_nothing : Fitting no_pages
fitting_nothing = record {
  paired = refl;
  lines = lit≤ tt;
  materials = lit≤ tt;
  whole = refl;
  spare = lit≤ tt;
  parts = lit≤ tt;
}

-- a file is taken, and the book holds its lines; or it is refused, and the book is empty
abbrev pub FileTaken : List ℕ → Book → Result Unit (Placed Fault) → Type 0
FileTaken xs q (Err f) = q ≡ no_pages
FileTaken xs q (Ok u) = Leads Grown 1 (lines_of xs) no_pages q
