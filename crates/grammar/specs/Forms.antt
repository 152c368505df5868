-- The forms of the two files and how they are spelled.
use Rattle.std.specs.Prelude.{◌≡◌, ℕ, ◌≤◌, List, [], ◌∷◌, ◌++◌, length, Some, None, codes, Option}
use Rattle.text.specs.Tokens.{Lexeme, opening, closing, number, word}
use Rattle.grammar.specs.declared.state.FileKind.{FileKind}
use Rattle.grammar.specs.declared.state.FileKind.TheVariants.{Rules, Lots}

-- the three axes
pub data Axis : Type 0 where
  x_axis : Axis
  y_axis : Axis
  z_axis : Axis

-- numbers and names are told by their bytes

-- axis, LOW and HIGH
pub data Guard : Type 0 where
  guard : Axis → List ℕ → List ℕ → Guard

-- length or weight, and name
pub data Part : Type 0 where
  fix : List ℕ → List ℕ → Part
  float : List ℕ → List ℕ → Part

-- `refer` is spelled use and `tile` repeat; a split has one part and any number more
pub data Body : Type 0 where
  make : List ℕ → Body
  refer : List ℕ → Body
  tile : Axis → List ℕ → List ℕ → Body
  split : Axis → Part → List Part → Body

-- a lot has three corner numbers, three sizes and a name
pub data Form : Type 0 where
  material : List ℕ → Form
  rule : List ℕ → List Guard → Body → Form
  lot : List ℕ → List ℕ → List ℕ → List ℕ → List ℕ → List ℕ → List ℕ → Form

-- the word for an axis
abbrev pub axis_text : Axis → List ℕ
axis_text x_axis = codes "x"
axis_text y_axis = codes "y"
axis_text z_axis = codes "z"

-- (when AXIS LOW HIGH) for each guard, and then us, as in all that follow
abbrev pub spell_guards : List Guard → List Lexeme → List Lexeme
spell_guards [] us = us
spell_guards (guard a l h ∷ gs) us =
    opening ∷ word (codes "when") ∷ word (axis_text a) ∷ number l ∷ number h ∷ closing ∷ spell_guards gs us

-- (fix N NAME) or (float W NAME)
abbrev pub spell_part : Part → List Lexeme → List Lexeme
spell_part (fix n w) us = opening ∷ word (codes "fix") ∷ number n ∷ word w ∷ closing ∷ us
spell_part (float n w) us = opening ∷ word (codes "float") ∷ number n ∷ word w ∷ closing ∷ us

-- one part after the other
abbrev pub spell_parts : List Part → List Lexeme → List Lexeme
spell_parts [] us = us
spell_parts (p ∷ ps) us = spell_part p (spell_parts ps us)

-- (make NAME), (use NAME), (repeat AXIS N NAME) or (split AXIS PART..)
abbrev pub spell_body : Body → List Lexeme → List Lexeme
spell_body (make w) us = opening ∷ word (codes "make") ∷ word w ∷ closing ∷ us
spell_body (refer w) us = opening ∷ word (codes "use") ∷ word w ∷ closing ∷ us
spell_body (tile a n w) us = opening ∷ word (codes "repeat") ∷ word (axis_text a) ∷ number n ∷ word w ∷ closing ∷ us
spell_body (split a p ps) us = opening ∷ word (codes "split") ∷ word (axis_text a) ∷ spell_part p (spell_parts ps (closing ∷ us))

-- (material NAME), (rule NAME GUARD.. BODY) or (lot PX PY PZ SX SY SZ NAME)
abbrev pub spell_form : Form → List Lexeme → List Lexeme
spell_form (material w) us = opening ∷ word (codes "material") ∷ word w ∷ closing ∷ us
spell_form (rule w gs b) us = opening ∷ word (codes "rule") ∷ word w ∷ spell_guards gs (spell_body b (closing ∷ us))
spell_form (lot px py pz sx sy sz w) us =
    opening ∷ word (codes "lot") ∷ number px ∷ number py ∷ number pz ∷ number sx ∷ number sy ∷ number sz ∷ word w ∷ closing ∷ us

-- a whole line
abbrev pub spell : Form → List Lexeme
spell f = spell_form f []

-- the most guards of a rule line
abbrev pub guard_limit : ℕ
guard_limit = 3

-- the form may stand in a file of this kind, and has not too many guards
abbrev pub Fits : FileKind → Form → Type 0
Fits Rules (material w) = Unit {0}
Fits Rules (rule w gs b) = length gs ≤ guard_limit
Fits Rules (lot px py pz sx sy sz w) = ⊥
Fits Lots (material w) = ⊥
Fits Lots (rule w gs b) = ⊥
Fits Lots (lot px py pz sx sy sz w) = Unit {0}

-- some form of the file begins with these lexemes
abbrev pub Begins : FileKind → List Lexeme → Type 0
Begins k ts = (f : Form) × (more : List Lexeme) × (Fits k f) × (spell f ≡ ts ++ more)

-- lexemes without their columns
abbrev pub plain : List (Lexeme × ℕ) → List Lexeme
plain [] = []
plain (p ∷ ps) = p.0 ∷ plain ps

-- a misplaced token in plain words: at column c stands the first lexeme at which no form can go on; or a form can go on all along
abbrev pub FirstStuck : FileKind → List (Lexeme × ℕ) → Option ℕ → Type 0
FirstStuck k ps (Some c) =
    (front : List (Lexeme × ℕ)) × (t : Lexeme) × (back : List (Lexeme × ℕ))
    × (ps ≡ front ++ (t, c) ∷ back) × (Begins k (plain front)) × (Begins k (plain front ++ t ∷ []) → ⊥)
FirstStuck k ps None = Begins k (plain ps)
