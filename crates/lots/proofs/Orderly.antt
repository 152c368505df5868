-- A lot file has no fault just if it is in order.
use Rattle.std.proofs.Common.{◌≡◌, ℕ, ◌+◌, ◌≤◌, Bool, true, false, cond, leb, List, [], ◌∷◌, ◌++◌, length, None, Option, sym, refl, ap, ◌∙◌, arith}
use Rattle.std.proofs.lemmas.Bool.{both_ways, cond-true, cond-false, not-false, leb-false, lt-leb, ltb-false, le-ltb}
use Rattle.text.proofs.Blank.{blank_decides}
use Rattle.text.specs.Lines.{is_blank, file_limit, lines_of}
use Rattle.text.specs.Tokens.{Lexeme, tokens_of}
use Rattle.grammar.proofs.Accepts.{never}
use Rattle.grammar.specs.Forms.{Form, material, rule, lot, spell, plain, Fits}
use Rattle.grammar.specs.declared.state.FileKind.TheVariants.{Lots}
use Rattle.judge.proofs.Filed.{Judges, first_none, both_none, found_none, whole_none, in_order, no_verdict}
use Rattle.judge.specs.Files.{some, column_of, whole_file}
use Rattle.judge.specs.Judged.{found, judged}
use Rattle.judge.specs.declared.faults.Fault.{Fault}
use Rattle.judge.specs.declared.faults.Fault.TheVariants.{FileTooLong, TooMany, OutOfSite, SharesCube, NoLot}
use Rattle.lots.proofs.Boxed.{box_said_lem, box_passes}
use Rattle.lots.specs.Lists.{Box}
use Rattle.lots.specs.Verdicts.{most_lots, box_in, after, at_start, box_fault, too_many, line_fault, verdict, box_said, Good, added, LotsInOrder}

spelled_some : (ps : List (Lexeme × ℕ)) (f : Form) → plain ps ≡ spell f → some ps ≡ true
spelled_some (p ∷ ps) f e = refl
spelled_some [] (material w) e = absurd (omega (arith, ap length e))
spelled_some [] (rule w gs b) e = absurd (omega (arith, ap length e))
spelled_some [] (lot px py pz sx sy sz w) e = absurd (omega (arith, ap length e))

first_some : (ps : List (Lexeme × ℕ)) → some ps ≡ true → column_of 0 ps ≡ None → ⊥
first_some (p ∷ ps) h e = never _ (sym e)
first_some [] h e = both_ways false refl h

-- too many just if there are as many as may be
many_none : (t : Bool) (o : Option ℕ) → (o ≡ None → ⊥) → cond t o None ≡ None → t ≡ false
many_none true o h e = absurd (h e)
many_none false o h e = refl

no_token : (t : Bool) → ◌≡◌ {A = Option ℕ} (cond t None None) None
no_token true = refl
no_token false = refl

start_none : (f : Fault) (n : ℕ) (t : Bool) → found f n (at_start t) ≡ None → t ≡ false
start_none f n true e = absurd (never _ (sym e))
start_none f n false e = refl

-- the parts of a judgement that finds nothing
pub record NothingMore (bs : List Box) (n : ℕ) (l : List ℕ) : Type 0 where
  pub alone : judged Lots n l ≡ None
  pub many : too_many bs l ≡ None
  pub box : cond (some (tokens_of l)) (box_fault bs n (box_in l)) None ≡ None

pub parts_of_lem : (bs : List Box) (n : ℕ) (l : List ℕ) → line_fault bs n l ≡ None → NothingMore bs n l
parts_of_lem bs n l e =
    let h = first_none _ _ e in
    let i = first_none _ _ h.1 in
    record { alone = h.0; many = found_none TooMany n _ i.0; box = i.1 }

pub from_parts : (bs : List Box) (n : ℕ) (l : List ℕ) → NothingMore bs n l → line_fault bs n l ≡ None
from_parts bs n l h = both_none _ _ h.alone (both_none _ _ (ap (found TooMany n) h.many) h.box)

-- a line that spells a lot
module _ (bs : List Box) (n : ℕ) (l : List ℕ) (f : Form) (h : Fits Lots f) (s : plain (tokens_of l) ≡ spell f) where
  token : some (tokens_of l) ≡ true
  token = spelled_some (tokens_of l) f s

  pub few : too_many bs l ≡ None → length bs + 1 ≤ most_lots
  few e = omega (arith, leb-false most_lots (length bs) (many_none (leb most_lots (length bs)) _ (first_some (tokens_of l) token) e))

  pub box_none : cond (some (tokens_of l)) (box_fault bs n (box_in l)) None ≡ None → box_fault bs n (box_said f) ≡ None
  box_none e = ap (box_fault bs n) (sym (box_said_lem l f h s)) ∙ (sym (cond-true _ _ _ token) ∙ e)

  good_lot : NothingMore bs n l → Good bs f
  good_lot p =
      let q = first_none _ _ (box_none p.box) in
      record { few = few p.many; inside = not-false _ (start_none OutOfSite n _ q.0); apart = start_none SharesCube n _ q.1 }

  passes_lot : judged Lots n l ≡ None → Good bs f → NothingMore bs n l
  passes_lot e g = record {
    alone = e;
    many = cond-false _ _ _ (lt-leb most_lots (length bs) (omega (arith, g.few)));
    box = cond-true _ _ _ token ∙ (ap (box_fault bs n) (box_said_lem l f h s) ∙ box_passes bs n (box_said f) (box_said f) g.inside refl (sym g.apart));
  }

  pub grown_lot : after bs l ≡ added bs f
  grown_lot = cond-true _ _ _ token ∙ ap (λ (b : Box). bs ++ b ∷ []) (box_said_lem l f h s)

-- a line without a token
module _ (bs : List Box) (n : ℕ) (l : List ℕ) (t : is_blank l ≡ true) where
  nothing_there : tokens_of l ≡ []
  nothing_there = (blank_decides l (is_blank l) refl).0 t

  passes_blank : judged Lots n l ≡ None → NothingMore bs n l
  passes_blank e = record {
    alone = e;
    many = ap (λ ps. cond (leb most_lots (length bs)) (column_of 0 ps) None) nothing_there ∙ no_token (leb most_lots (length bs));
    box = ap (λ (ps : List (Lexeme × ℕ)). cond (some ps) (box_fault bs n (box_in l)) None) nothing_there;
  }

  pub grown_blank : after bs l ≡ bs
  grown_blank = ap (λ (ps : List (Lexeme × ℕ)). cond (some ps) (bs ++ box_in l ∷ []) bs) nothing_there

judges : Judges Lots line_fault after Good added
judges = record {
  alone = λ bs n l e. (parts_of_lem bs n l e).alone;
  blank = λ bs n l e t. from_parts bs n l (passes_blank bs n l t e);
  skipped = λ bs l t. grown_blank bs 0 l t;
  grown = λ bs l f s. grown_lot bs 0 l f s.fits s.spelled;
  good = λ bs n l f s e. good_lot bs n l f s.fits s.spelled (parts_of_lem bs n l e);
  passes = λ bs n l f e s g. from_parts bs n l (passes_lot bs n l f s.fits s.spelled e g);
}

lot_there : (t : Bool) → cond t None (whole_file NoLot) ≡ None → t ≡ true
lot_there true e = refl
lot_there false e = absurd (never _ (sym e))

-- the verdict is nothing just if the file is in order
pub in_plain_words : (xs : List ℕ) → (verdict xs ≡ None → LotsInOrder xs) × (LotsInOrder xs → verdict xs ≡ None)
in_plain_words xs = (
  λ e. let q = whole_none _ FileTooLong _ e in
      let r = first_none _ _ q.1 in
      record {
        short = ltb-false file_limit (length xs) q.0;
        lines = in_order Lots line_fault after Good added judges (lines_of xs) [] 1 r.0;
        lot = lot_there _ r.1;
      },
  λ o. cond-false _ _ _ (le-ltb file_limit (length xs) o.short)
      ∙ both_none _ _ (no_verdict Lots line_fault after Good added judges (lines_of xs) [] 1 o.lines) (cond-true _ _ _ o.lot),
)
