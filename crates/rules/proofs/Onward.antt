-- Reading a whole rule file.
use Rattle.std.proofs.Common.{◌≡◌, ℕ, true, false, List, None, Ok, Err, Result, sym, refl, ap, ◌∙◌}
use Rattle.std.specs.Result.{result_err, IsOk}
use Rattle.text.specs.declared.placed.Placed.{Placed}
use Rattle.grammar.proofs.Accepts.{never}
use Rattle.judge.specs.declared.faults.Fault.{Fault}
use Rattle.by_lines.specs.Taken as taken
use Rattle.by_lines.proofs.Judged.{line_added}
use Rattle.rules.proofs.Fits.{fitting_grown, fitting_fits}
use Rattle.rules.proofs.Left.{left_grown}
use Rattle.rules.proofs.Orderly.{in_plain_words}
use Rattle.rules.specs.Before.{left_by, after}
use Rattle.rules.specs.Holds.{Grown, Fitting, verdict_after, FileTaken, fits}
use Rattle.rules.specs.Pages.{no_pages}
use Rattle.rules.specs.Verdicts.{line_fault, verdict, RulesInOrder}
use Rattle.rules.specs.declared.rule_book.Book.{Book}

module _ (n : ℕ) (l : List ℕ) (p q : Book) where
  -- a line without fault is added
  pub taken_line : line_fault (left_by p) n l ≡ None → Grown n l p q → Fitting p → taken.Taken verdict_after Grown Fitting n l p q (Ok tt)
  taken_line e g f = line_added line_fault after left_by Grown left_grown Fitting n l p q e g (fitting_grown n l p q f e g)

-- what reading a file promises
pub record ReadWhole (xs : List ℕ) (q : Book) (r : Result Unit (Placed Fault)) : Type 0 where
  pub verdict_is : result_err r ≡ verdict xs
  pub order : (IsOk r → RulesInOrder xs) × (RulesInOrder xs → IsOk r)
  pub holds : FileTaken xs q r
  pub fitting : fits q ≡ true

pub read_whole : (xs : List ℕ) (q : Book) (r : Result Unit (Placed Fault)) → taken.FileTaken verdict_after Grown Fitting no_pages xs q r → ReadWhole xs q r
read_whole xs q (Ok u) h =
    let w = in_plain_words xs in
    record { verdict_is = sym h.0; order = (λ o. w.0 h.0, λ o. refl); holds = h.1; fitting = fitting_fits q h.2 }
read_whole xs q (Err f) h =
    let w = in_plain_words xs in
    record {
      verdict_is = sym h.0;
      order = (λ o. absurd (let e : false ≡ true = o in cc), λ o. absurd (never f (sym (w.1 o) ∙ h.0)));
      holds = h.1;
      fitting = ap fits h.1;
    }
