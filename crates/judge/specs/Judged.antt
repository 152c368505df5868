-- The judgement of a line by itself.
use Rattle.std.specs.Prelude.{◌≡◌, ℕ, ◌<◌, ◌≤◌, true, ◌⊎◌, List, [], ◌∷◌, length, Some, None, Option, slice_index}
use Rattle.text.specs.Bytes.{allowed}
use Rattle.text.specs.Findings.{or_else, line_limit, too_long, not_allowed, unbalanced}
use Rattle.text.specs.Lines.{is_blank}
use Rattle.text.specs.Tokens.{tokens_of}
use Rattle.text.specs.declared.placed.Placed.{Placed}
use Rattle.grammar.specs.Forms.{Form, Fits, spell, plain}
use Rattle.grammar.specs.Orders.{good_numbers, good_names}
use Rattle.grammar.specs.Wants.{form, first_at, misplaced, bad_number, bad_name}
use Rattle.grammar.specs.declared.state.FileKind.{FileKind}
use Rattle.judge.specs.Faults.{number_of}
use Rattle.judge.specs.declared.faults.Fault.{Fault}
use Rattle.judge.specs.declared.faults.Fault.TheVariants.{FileTooLong, LineTooLong, ByteNotAllowed, Brackets, Misplaced, BadNumber, BadName, RuleNameUsed, TooMany, LastLineGuarded, UnknownName, NotFurtherDown, OutOfSite, SharesCube, NoLot}

-- the leftmost place of each fault that a line has by itself
abbrev pub place : FileKind → List ℕ → Fault → Option ℕ
place k l FileTooLong = None
place k l LineTooLong = too_long l
place k l ByteNotAllowed = not_allowed l
place k l Brackets = unbalanced l
place k l Misplaced = first_at misplaced (form k ∷ []) (tokens_of l)
place k l BadNumber = first_at bad_number (form k ∷ []) (tokens_of l)
place k l BadName = first_at bad_name (form k ∷ []) (tokens_of l)
place k l RuleNameUsed = None
place k l TooMany = None
place k l LastLineGuarded = None
place k l UnknownName = None
place k l NotFurtherDown = None
place k l OutOfSite = None
place k l SharesCube = None
place k l NoLot = None

-- a fault at a column of line n
abbrev pub found : Fault → ℕ → Option ℕ → Option (Placed Fault)
found f n (Some c) = Some (record { value = f; line = n; column = c })
found f n None = None

-- of what is wrong with line n the fault with the least number
abbrev pub judged : FileKind → ℕ → List ℕ → Option (Placed Fault)
judged k n l =
    or_else (found LineTooLong n (too_long l))
    (or_else (found ByteNotAllowed n (not_allowed l))
    (or_else (found Brackets n (unbalanced l))
    (or_else (found Misplaced n (first_at misplaced (form k ∷ []) (tokens_of l)))
    (or_else (found BadNumber n (first_at bad_number (form k ∷ []) (tokens_of l)))
    (found BadName n (first_at bad_name (form k ∷ []) (tokens_of l)))))))

-- in plain words: the line has the fault at its leftmost place, and none with a lower number; or it has none
abbrev pub Least : FileKind → ℕ → List ℕ → Option (Placed Fault) → Type 0
Least k n l (Some p) =
    (place k l p.value ≡ Some p.column) × (p.line ≡ n) × ((f : Fault) → number_of f < number_of p.value → place k l f ≡ None)
Least k n l None = (f : Fault) → place k l f ≡ None

-- the tokens of the line spell a form of the file, with its numbers and names in order
abbrev pub Sound : FileKind → List ℕ → Type 0
Sound k l = (f : Form) × (Fits k f) × (plain (tokens_of l) ≡ spell f) × (good_numbers f ≡ true) × (good_names f ≡ true)

-- not too long, with allowed bytes only, and blank or a form in order
abbrev pub Acceptable : FileKind → List ℕ → Type 0
Acceptable k l =
    (length l ≤ line_limit) × ((i : ℕ) → i < length l → allowed (slice_index l i) ≡ true) × ((is_blank l ≡ true) ⊎ Sound k l)
