-- Forms whose numbers and names are in order.
use Rattle.std.specs.Prelude.{◌≡◌, ℕ, ◌-◌, Bool, true, not, ◌&&◌, List, [], ◌∷◌, ◌++◌, is_some, Some, None, Option}
use Rattle.text.specs.Tokens.{Lexeme}
use Rattle.text.specs.Words.{good_name}
use Rattle.grammar.specs.Forms.{Guard, guard, Part, fix, float, Body, make, refer, tile, split, Form, material, rule, lot, spell, plain, Fits}
use Rattle.geometry.specs.Limits.{site, least}
use Rattle.grammar.specs.Wants.{Want, weight_limit, low_of, inside, run, passes}
use Rattle.grammar.specs.declared.state.FileKind.{FileKind}
use Rattle.grammar.specs.declared.state.Naming.{Naming}
use Rattle.grammar.specs.declared.state.Naming.TheVariants.{Declared, Own, Material, Rule}

-- each number passes N at its range, and each name M at what it is for
module _ (N : ℕ × ℕ → List ℕ → Bool) (M : Naming → List ℕ → Bool) where
  -- LOW from 1, and HIGH from LOW where that is good
  abbrev pub ordered_guards : List Guard → Bool
  ordered_guards [] = true
  ordered_guards (guard a l h ∷ gs) = N (1, site) l && (N (low_of l, site) h && ordered_guards gs)

  -- a length or a weight, and a rule's name
  abbrev pub ordered_part : Part → Bool
  ordered_part (fix n w) = N (least, site) n && M Rule w
  ordered_part (float n w) = N (1, weight_limit) n && M Rule w

  -- each part
  abbrev pub ordered_parts : List Part → Bool
  ordered_parts [] = true
  ordered_parts (p ∷ ps) = ordered_part p && ordered_parts ps

  -- make names a material, the others rules
  abbrev pub ordered_body : Body → Bool
  ordered_body (make w) = M Material w
  ordered_body (refer w) = M Rule w
  ordered_body (tile a n w) = N (least, site) n && M Rule w
  ordered_body (split a p ps) = ordered_part p && ordered_parts ps

  -- the whole form
  abbrev pub ordered : Form → Bool
  ordered (material w) = M Declared w
  ordered (rule w gs b) = M Own w && (ordered_guards gs && ordered_body b)
  ordered (lot px py pz sx sy sz w) =
      N (0, site - 1) px && (N (0, site - 1) py && (N (0, site - 1) pz
      && (N (least, site) sx && (N (least, site) sy && (N (least, site) sz && M Rule w)))))

-- every number of the form is well formed and in its range
abbrev pub good_numbers : Form → Bool
good_numbers = ordered inside (λ n w. true)

-- every name of the form is a good one
abbrev pub good_names : Form → Bool
good_names = ordered (λ r w. true) (λ n w. good_name w)

-- where lexemes spell a form of the file, something is found just if the form is not good
abbrev pub Tells : (Form → Bool) → FileKind → List (Lexeme × ℕ) → Option ℕ → Type 0
Tells good k ps r = (f : Form) → Fits k f → plain ps ≡ spell f → is_some r ≡ not (good f)

-- in plain words: the lexeme at column c fails the test where it stands, and those before it fit and pass; or none fails
abbrev pub FirstWrong : (List Want → Lexeme → Bool) → List Want → List (Lexeme × ℕ) → Option ℕ → Type 0
FirstWrong test xs ps (Some c) =
    (front : List (Lexeme × ℕ)) × (t : Lexeme) × (back : List (Lexeme × ℕ)) × (ps ≡ front ++ (t, c) ∷ back)
    × (ys : List Want) × (run xs (plain front) ≡ Some ys) × (passes test xs (plain front) ≡ true) × (test ys t ≡ true)
FirstWrong test xs ps None = passes test xs (plain ps) ≡ true
