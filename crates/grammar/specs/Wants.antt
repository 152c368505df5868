-- What a line must still have, as a list of wants, the next first.
use Rattle.std.specs.Prelude.{ℕ, ◌-◌, Bool, true, false, cond, not, List, [], ◌∷◌, ◌++◌, is_some, Some, None, codes, Option, nat_lt}
use Rattle.std.specs.Option.{unwrap_or}
use Rattle.std.specs.Str.{bytes_eq}
use Rattle.geometry.specs.Limits.{site, least}
use Rattle.text.specs.Numbers.{number_in}
use Rattle.text.specs.Tokens.{Lexeme, opening, closing, number, word}
use Rattle.text.specs.Words.{is_axis, good_name}
use Rattle.grammar.specs.Forms.{guard_limit}
use Rattle.grammar.specs.declared.state.FileKind.{FileKind}
use Rattle.grammar.specs.declared.state.FileKind.TheVariants.{Rules, Lots}
use Rattle.grammar.specs.declared.state.Naming.{Naming}
use Rattle.grammar.specs.declared.state.Naming.TheVariants.{Declared, Own, Material, Rule}

-- the greatest weight
abbrev pub weight_limit : ℕ
weight_limit = 1000

-- form: a whole form; head: the same after its bracket; num: a number from one to another; range: LOW and HIGH;
-- items k: at most k guards and then a body; item k: the same after its bracket; parts: parts up to the bracket that
-- ends the body, at least one; more: the same, perhaps none; part: a part after its bracket; shut: a closing bracket
pub data Want : Type 0 where
  form : FileKind → Want
  head : FileKind → Want
  name : Naming → Want
  num : ℕ → ℕ → Want
  range : Want
  axis : Want
  shut : Want
  items : ℕ → Want
  item : ℕ → Want
  parts : Want
  more : Want
  part : Want

-- a number of a corner
abbrev pub corner : Want
corner = num 0 (site - 1)

-- a size, a fixed length or a tile
abbrev pub size : Want
size = num least site

-- the least HIGH after the LOW w: the LOW where it is a good one
abbrev pub low_of : List ℕ → ℕ
low_of w = unwrap_or (number_in 1 site w) 1

-- what the word after a form's bracket leaves to want
abbrev pub head_wants : FileKind → List ℕ → Option (List Want)
head_wants Rules w =
    cond (bytes_eq w (codes "material")) (Some (name Declared ∷ shut ∷ []))
    (cond (bytes_eq w (codes "rule")) (Some (name Own ∷ items guard_limit ∷ shut ∷ [])) None)
head_wants Lots w =
    cond (bytes_eq w (codes "lot")) (Some (corner ∷ corner ∷ corner ∷ size ∷ size ∷ size ∷ name Rule ∷ shut ∷ [])) None

-- what the word after a guard's or a body's bracket leaves to want
abbrev pub item_wants : ℕ → List ℕ → Option (List Want)
item_wants k w =
    cond (bytes_eq w (codes "when")) (cond (nat_lt 0 k) (Some (axis ∷ range ∷ shut ∷ items (k - 1) ∷ [])) None)
    (cond (bytes_eq w (codes "make")) (Some (name Material ∷ shut ∷ []))
    (cond (bytes_eq w (codes "use")) (Some (name Rule ∷ shut ∷ []))
    (cond (bytes_eq w (codes "repeat")) (Some (axis ∷ size ∷ name Rule ∷ shut ∷ []))
    (cond (bytes_eq w (codes "split")) (Some (axis ∷ parts ∷ [])) None))))

-- what the word after a part's bracket leaves to want
abbrev pub part_wants : List ℕ → Option (List Want)
part_wants w =
    cond (bytes_eq w (codes "fix")) (Some (size ∷ name Rule ∷ shut ∷ []))
    (cond (bytes_eq w (codes "float")) (Some (num 1 weight_limit ∷ name Rule ∷ shut ∷ [])) None)

-- where one kind of lexeme fits, it leaves what is told

abbrev pub at_opening : List Want → Lexeme → Option (List Want)
at_opening xs opening = Some xs
at_opening xs closing = None
at_opening xs (number w) = None
at_opening xs (word w) = None

abbrev pub at_closing : List Want → Lexeme → Option (List Want)
at_closing xs opening = None
at_closing xs closing = Some xs
at_closing xs (number w) = None
at_closing xs (word w) = None

abbrev pub at_number : (List ℕ → List Want) → Lexeme → Option (List Want)
at_number f opening = None
at_number f closing = None
at_number f (number w) = Some (f w)
at_number f (word w) = None

abbrev pub at_word : (List ℕ → Option (List Want)) → Lexeme → Option (List Want)
at_word f opening = None
at_word f closing = None
at_word f (number w) = None
at_word f (word w) = f w

-- the first answer, or else the second
abbrev pub either : Option (List Want) → Option (List Want) → Option (List Want)
either (Some xs) o = Some xs
either None o = o

-- what a want leaves to want after its first lexeme, if that fits
abbrev pub expand : Want → Lexeme → Option (List Want)
expand (form k) t = at_opening (head k ∷ []) t
expand (head k) t = at_word (head_wants k) t
expand (name n) t = at_word (λ w. Some []) t
expand (num low high) t = at_number (λ w. []) t
expand range t = at_number (λ w. num (low_of w) site ∷ []) t
expand axis t = at_word (λ w. cond (is_axis w) (Some []) None) t
expand shut t = at_closing [] t
expand (items k) t = at_opening (item k ∷ []) t
expand (item k) t = at_word (item_wants k) t
expand parts t = at_opening (part ∷ more ∷ []) t
expand more t = either (at_opening (part ∷ more ∷ []) t) (at_closing [] t)
expand part t = at_word part_wants t

-- what is left to want is put before xs
abbrev pub onto : Option (List Want) → List Want → Option (List Want)
onto None xs = None
onto (Some ys) xs = Some (ys ++ xs)

-- one lexeme more
abbrev pub step : List Want → Lexeme → Option (List Want)
step [] t = None
step (x ∷ xs) t = onto (expand x t) xs

-- what is wanted after all lexemes, if each fits
abbrev pub run : List Want → List Lexeme → Option (List Want)
run xs [] = Some xs
run xs (t ∷ ts) = elim (step xs t) [ None ↦ None | Some ys ↦ run ys ts ]

-- the column of the first lexeme at which a test on it and on what is wanted there holds
abbrev pub first_at : (List Want → Lexeme → Bool) → List Want → List (Lexeme × ℕ) → Option ℕ
first_at test xs [] = None
first_at test xs (p ∷ ps) = cond (test xs p.0) (Some p.1) (elim (step xs p.0) [ None ↦ None | Some ys ↦ first_at test ys ps ])

-- a lexeme that does not fit
abbrev pub misplaced : List Want → Lexeme → Bool
misplaced xs t = not (is_some (step xs t))

-- the range of the number that is wanted next, if one is
abbrev pub ranging : List Want → Option (ℕ × ℕ)
ranging [] = None
ranging (form k ∷ xs) = None
ranging (head k ∷ xs) = None
ranging (name n ∷ xs) = None
ranging (num low high ∷ xs) = Some (low, high)
ranging (range ∷ xs) = Some (1, site)
ranging (axis ∷ xs) = None
ranging (shut ∷ xs) = None
ranging (items k ∷ xs) = None
ranging (item k ∷ xs) = None
ranging (parts ∷ xs) = None
ranging (more ∷ xs) = None
ranging (part ∷ xs) = None

-- what name is wanted next, if one is
abbrev pub naming : List Want → Option Naming
naming [] = None
naming (form k ∷ xs) = None
naming (head k ∷ xs) = None
naming (name n ∷ xs) = Some n
naming (num low high ∷ xs) = None
naming (range ∷ xs) = None
naming (axis ∷ xs) = None
naming (shut ∷ xs) = None
naming (items k ∷ xs) = None
naming (item k ∷ xs) = None
naming (parts ∷ xs) = None
naming (more ∷ xs) = None
naming (part ∷ xs) = None

-- a number that fails N at its range, or a name that fails M at what it is wanted for
abbrev pub wrong_by : (ℕ × ℕ → List ℕ → Bool) → (Naming → List ℕ → Bool) → List Want → Lexeme → Bool
wrong_by N M xs opening = false
wrong_by N M xs closing = false
wrong_by N M xs (number w) = elim (ranging xs) [ None ↦ false | Some r ↦ not (N r w) ]
wrong_by N M xs (word w) = elim (naming xs) [ None ↦ false | Some n ↦ not (M n w) ]

-- the word is a number of the range
abbrev pub inside : ℕ × ℕ → List ℕ → Bool
inside r w = is_some (number_in r.0 r.1 w)

-- a number that is malformed or out of its range
abbrev pub bad_number : List Want → Lexeme → Bool
bad_number = wrong_by inside (λ n w. true)

-- a word that is no name where one is wanted
abbrev pub bad_name : List Want → Lexeme → Bool
bad_name = wrong_by (λ r w. true) (λ n w. good_name w)

-- no lexeme fails the test, up to the first that does not fit
abbrev pub passes : (List Want → Lexeme → Bool) → List Want → List Lexeme → Bool
passes test xs [] = true
passes test xs (t ∷ ts) = cond (test xs t) false (elim (step xs t) [ None ↦ true | Some ys ↦ passes test ys ts ])
