-- Sums and counts, over the numbers below a bound and over a list.
use Rattle.std.specs.Prelude.{ℕ, zero, suc, ◌+◌, Bool, cond, List, [], ◌∷◌}

-- f 0 + .. + f (n - 1)
abbrev pub total : (ℕ → ℕ) → ℕ → ℕ
total f zero = 0
total f (suc n) = total f n + f n

-- how many k below n pass the test
abbrev pub count : (ℕ → Bool) → ℕ → ℕ
count p n = total (λ k. cond (p k) 1 0) n

-- the sum of f over a list
abbrev pub sum_of : {X : Type 0} → (X → ℕ) → List X → ℕ
sum_of f [] = 0
sum_of f (x ∷ xs) = f x + sum_of f xs
