-- A value that stays the same from index to index.
use Rattle.std.proofs.Common.{◌≡◌, ℕ, zero, suc, ◌+◌, ◌<◌, ◌≤◌, ap, ◌∙◌, ⊎_elim, add-one, arith}
use Rattle.std.proofs.lemmas.Bool.{cases_lt}

pub along : {X : Type 0} (F : ℕ → X) (a b : ℕ) → a ≤ b → ((i : ℕ) → a ≤ i → i < b → F i ≡ F (i + 1)) → F a ≡ F b
along F a zero h f = ap F (omega arith)
along F a (suc b) h f =
    ⊎_elim (λ l. along F a b (omega arith) (λ i p q. f i p (omega arith)) ∙ (f b (omega arith) (omega arith) ∙ ap F (add-one b)))
    (λ l. ap F (omega arith)) (cases_lt a (suc b))
