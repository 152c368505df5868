-- Reading on, line by line.
use Rattle.std.proofs.Common.{◌≡◌, ℕ, ◌+◌, List, Option}
use Rattle.text.specs.Lines.{lines_left}
use Rattle.text.specs.declared.lines.Lines.{Lines}
use Rattle.text.specs.declared.placed.Placed.{Placed}
use Rattle.judge.specs.Files.{Leads}
use Rattle.judge.specs.declared.faults.Fault.{Fault}

module _ {P : Type 0} (verdict : P → ℕ → List (List ℕ) → Option (Placed Fault)) (Grown : ℕ → List ℕ → P → P → Type 0) (Fits : P → Type 0) where
  -- lines that are left lead from p to q
  abbrev pub LeadsLeft : Lines → P → P → Type 0
  LeadsLeft s p q = Leads Grown (s.before + 1) (lines_left s) p q

  -- from p₀ before the lines s₀ reading has come to p before the lines s
  pub record Reading (s₀ : Lines) (p₀ : P) (s : Lines) (p : P) : Type 0 where
    pub fits : Fits p
    pub same : verdict p (s.before + 1) (lines_left s) ≡ verdict p₀ (s₀.before + 1) (lines_left s₀)
    pub led : (q : P) → LeadsLeft s p q → LeadsLeft s₀ p₀ q
