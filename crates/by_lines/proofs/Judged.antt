-- Lines that are judged by what those before them left.
use Rattle.std.proofs.Common.{◌≡◌, ℕ, ◌+◌, List, [], ◌∷◌, Some, None, Option, Ok, Err, sym, ap, ◌∙◌}
use Rattle.text.specs.Findings.{or_else}
use Rattle.text.specs.declared.placed.Placed.{Placed}
use Rattle.judge.specs.Files.{verdict_from, left_after, Leads}
use Rattle.judge.specs.declared.faults.Fault.{Fault}
use Rattle.by_lines.specs.Taken.{Taken}

-- `left` tells what later lines are judged by
module _ {S P : Type 0} (judge : S → ℕ → List ℕ → Option (Placed Fault)) (after : S → List ℕ → S) (left : P → S)
    (Grown : ℕ → List ℕ → P → P → Type 0) (leaves : (n : ℕ) (l : List ℕ) (p q : P) → Grown n l p q → left q ≡ after (left p) l) where
  -- what lines leave that lead from p to q
  pub leads_leave : (ls : List (List ℕ)) (n : ℕ) (p q : P) → Leads Grown n ls p q → left q ≡ left_after judge after (left p) ls
  leads_leave [] n p q e = ap left e
  leads_leave (l ∷ ls) n p q h = leads_leave ls (n + 1) h.0 q h.2 ∙ ap (λ s. left_after judge after s ls) (leaves n l p h.0 h.1)

  module _ (Fits : P → Type 0) where
    abbrev verdict : P → ℕ → List (List ℕ) → Option (Placed Fault)
    verdict p = verdict_from judge after (left p)

    -- a line without fault is added
    pub line_added : (n : ℕ) (l : List ℕ) (p q : P) → judge (left p) n l ≡ None → Grown n l p q → Fits q → Taken verdict Grown Fits n l p q (Ok tt)
    line_added n l p q e g f = (
      g,
      f,
      λ ls. ap (λ o. or_else o (verdict_from judge after (after (left p) l) (n + 1) ls)) e
          ∙ sym (ap (λ s. verdict_from judge after s (n + 1) ls) (leaves n l p q g)),
    )

    -- a line with a fault is refused
    pub line_refused : (n : ℕ) (l : List ℕ) (p q : P) (f : Placed Fault) → judge (left p) n l ≡ Some f → q ≡ p → Taken verdict Grown Fits n l p q (Err f)
    line_refused n l p q f e g = (λ ls. ap (λ o. or_else o (verdict_from judge after (after (left p) l) (n + 1) ls)) e, g)
