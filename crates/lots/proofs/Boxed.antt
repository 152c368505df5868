-- The boxes of lots, as their lines say them.
use Rattle.std.proofs.Common.{◌≡◌, ℕ, true, false, not, List, [], ◌∷◌, Some, None, sym, refl, ap, ◌∙◌}
use Rattle.text.specs.Findings.{or_else}
use Rattle.text.specs.declared.placed.Placed.{Placed}
use Rattle.judge.specs.declared.faults.Fault.{Fault}
use Rattle.text.specs.Numbers.{value_from}
use Rattle.text.specs.Tokens.{Lexeme, opening, closing, number, word, tokens_of}
use Rattle.grammar.specs.Forms.{Form, material, rule, lot, spell, plain, Fits}
use Rattle.grammar.specs.declared.state.FileKind.TheVariants.{Lots}
use Rattle.judge.proofs.Filed.{both_none}
use Rattle.judge.specs.Judged.{found}
use Rattle.judge.specs.declared.faults.Fault.TheVariants.{OutOfSite, SharesCube}
use Rattle.lots.specs.Lists.{Box}
use Rattle.lots.specs.Shares.{shares_any}
use Rattle.lots.specs.Verdicts.{numbers_in, box_from, box_in, box_said, inside_site, at_start, box_fault}

pub box_passes : (bs : List Box) (n : ℕ) (b c : Box) → inside_site b ≡ true → c ≡ b → false ≡ shares_any c bs → box_fault bs n b ≡ None
box_passes bs n b c i e s =
    both_none _ _ (ap (λ t. found OutOfSite n (at_start (not t))) i)
    (ap (λ t. found SharesCube n (at_start t)) (ap (λ (d : Box). shares_any d bs) (sym e) ∙ sym s))

pub box_shares : (bs : List Box) (n : ℕ) (b c : Box) (f : Placed Fault) → inside_site b ≡ true → c ≡ b → true ≡ shares_any c bs
    → Some f ≡ found SharesCube n (Some 1) → box_fault bs n b ≡ Some f
box_shares bs n b c f i e s g =
    ap (λ t. or_else (found OutOfSite n (at_start (not t))) (found SharesCube n (at_start (shares_any b bs)))) i
    ∙ (ap (λ t. found SharesCube n (at_start t)) (ap (λ (d : Box). shares_any d bs) (sym e) ∙ sym s) ∙ sym g)

-- the same of lexemes without their columns
abbrev values : List Lexeme → List ℕ
values [] = []
values (opening ∷ ts) = values ts
values (closing ∷ ts) = values ts
values (number w ∷ ts) = value_from 0 w ∷ values ts
values (word w ∷ ts) = values ts

numbers_plain : (ps : List (Lexeme × ℕ)) → numbers_in ps ≡ values (plain ps)
numbers_plain [] = refl
numbers_plain ((opening, c) ∷ ps) = numbers_plain ps
numbers_plain ((closing, c) ∷ ps) = numbers_plain ps
numbers_plain ((number w, c) ∷ ps) = ap (λ ns. value_from 0 w ∷ ns) (numbers_plain ps)
numbers_plain ((word w, c) ∷ ps) = numbers_plain ps

-- the box in a line is the one that its form says
pub box_said_lem : (l : List ℕ) (f : Form) → Fits Lots f → plain (tokens_of l) ≡ spell f → box_in l ≡ box_said f
box_said_lem l (material w) h e = absurd h
box_said_lem l (rule w gs b) h e = absurd h
box_said_lem l (lot px py pz sx sy sz w) h e = ap box_from (numbers_plain (tokens_of l) ∙ ap values e)
