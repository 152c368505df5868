-- Reading a whole lot file.
use Rattle.std.proofs.Common.{◌≡◌, ℕ, Bool, true, false, cond, ltb, List, [], ◌∷◌, map, length, Some, None, Option, Ok, Err, Result, sym, refl, ap, ◌∙◌, subst, arith}
use Rattle.std.specs.Result.{result_err, IsOk}
use Rattle.text.specs.Findings.{or_else}
use Rattle.text.specs.Lines.{file_limit, lines_of}
use Rattle.text.specs.declared.placed.Placed.{Placed}
use Rattle.grammar.proofs.Accepts.{never}
use Rattle.judge.specs.Files.{whole_file, left_after}
use Rattle.judge.specs.declared.faults.Fault.{Fault}
use Rattle.judge.specs.declared.faults.Fault.TheVariants.{FileTooLong}
use Rattle.by_lines.specs.Taken as taken
use Rattle.by_lines.proofs.Judged.{leads_leave}
use Rattle.lots.proofs.Added.{left_grown}
use Rattle.lots.proofs.Orderly.{in_plain_words}
use Rattle.lots.specs.Holds.{left_by, Grown, Fitting, verdict_after, FileTaken}
use Rattle.lots.specs.Lists.{no_lots, boxed}
use Rattle.lots.specs.Verdicts.{line_fault, after, no_lot, verdict, LotsInOrder}
use Rattle.lots.specs.declared.list.Lot.{Lot}
use Rattle.lots.specs.declared.list.LotList.{LotList}

-- what reading a file promises
pub record ReadWhole (xs : List ℕ) (q : LotList) (r : Result Unit (Placed Fault)) : Type 0 where
  pub verdict_is : result_err r ≡ verdict xs
  pub order : (IsOk r → LotsInOrder xs) × (LotsInOrder xs → IsOk r)
  pub holds : FileTaken xs q r
  pub few : Fitting q

-- a result is no refusal
ok_none : (r : Result Unit (Placed Fault)) → IsOk r → result_err r ≡ None
ok_none (Ok u) h = refl
ok_none (Err f) h = absurd (let e : false ≡ true = h in cc)

none_ok : (r : Result Unit (Placed Fault)) → result_err r ≡ None → IsOk r
none_ok (Ok u) h = refl
none_ok (Err f) h = absurd (never f (sym h))

-- a refusal of a file before its end is counted
refusal_stays : (t : Bool) (w v o : Option (Placed Fault)) (f : Placed Fault) → cond t w v ≡ Some f → cond t w (or_else v o) ≡ Some f
refusal_stays true w v o f e = e
refusal_stays false w v o f e = ap (λ v. or_else v o) e

past : (t : Bool) (v o : Option (Placed Fault)) → cond t (whole_file FileTooLong) v ≡ None → cond t (whole_file FileTooLong) (or_else v o) ≡ o
past true v o e = absurd (never _ (sym e))
past false v o e = ap (λ v. or_else v o) e

none_there : (ls : List Lot) (f : Placed Fault) → no_lot (map boxed ls) ≡ Some f → ◌≡◌ {A = LotList} (record { lots = ls }) no_lots
none_there [] f e = refl
none_there (l ∷ ls) f e = absurd (never f e)

module _ (xs : List ℕ) where
  promised : (q : LotList) (r : Result Unit (Placed Fault)) → result_err r ≡ verdict xs → FileTaken xs q r → Fitting q → ReadWhole xs q r
  promised q r v h f =
      let w = in_plain_words xs in
      record { verdict_is = v; order = (λ o. w.0 (sym v ∙ ok_none r o), λ o. none_ok r (v ∙ w.1 o)); holds = h; few = f }

  -- the file or a line was refused
  pub read_refused : (q : LotList) (f : Placed Fault) → taken.FileTaken verdict_after Grown Fitting no_lots xs q (Err f) → ReadWhole xs q (Err f)
  read_refused q f h =
      promised q (Err f) (sym (refusal_stays (ltb file_limit (length xs)) _ _ (no_lot (left_after line_fault after [] (lines_of xs))) f h.0))
      h.1 (subst Fitting (sym h.1) (omega arith))

  -- all lines were taken
  pub read_through : (q : LotList) (r : Result Unit (Placed Fault)) → taken.FileTaken verdict_after Grown Fitting no_lots xs q (Ok tt)
      → result_err r ≡ no_lot (left_by q) → ReadWhole xs q r
  read_through q r h d =
      let left : left_by q ≡ left_after line_fault after [] (lines_of xs) =
      leads_leave line_fault after left_by Grown left_grown (lines_of xs) 1 no_lots q h.1 in
      let v : result_err r ≡ verdict xs = d ∙ (ap no_lot left ∙ sym (past (ltb file_limit (length xs)) _ _ h.0)) in
      promised q r v ((elim r as (λ s. r ≡ s → FileTaken xs q s) [
        | Ok u ↦ λ g. h.1
        | Err f ↦ λ g. none_there q.lots f (sym d ∙ ap result_err g)
      ]) refl) h.2
