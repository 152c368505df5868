-- How many quotas come before one: counted over the list, it is the rank in the order of remainders.
use Rattle.std.proofs.Common.{◌≡◌, ℕ, zero, suc, ◌+◌, ◌<◌, Bool, List, [], ◌∷◌, length, get_or, map, refl, ap, ◌∙◌, count_by, arith}
use Rattle.std.specs.List.{enumerate_from}
use Rattle.std.proofs.lemmas.List.{length-map}
use Rattle.std.proofs.lemmas.List.Sums.{sum_by-cons}
use Rattle.geometry.specs.declared.units.Weight.{Weight}
use Rattle.geometry.specs.Sums.{total, count}
use Rattle.geometry.proofs.Totals.{one, total_front, total_same}
use Rattle.rows.specs.declared.shares.Quota.{Quota}
use Rattle.rows.specs.Apportion.{tie, comes, before, rank_by, whole, remainder}
use Rattle.rows.specs.Rows.{weight_at}
use Rattle.rows.proofs.Ranks.{rank_same}
use Rattle.rows.specs.Quotas.{quota, remainder_at, whole_at, ahead}

count_total : {X : Type 0} (p : ℕ × X → Bool) (d : X) (k : ℕ) (xs : List X) → count_by p (enumerate_from k xs) ≡ total (λ j. one (p (k + j, get_or xs j d))) (length xs)
count_total p d k [] = refl
count_total p d k (x ∷ xs) =
    let f : ℕ → ℕ = λ j. one (p (k + j, get_or (x ∷ xs) j d)) in
    let z : k + 0 ≡ k = omega arith in
    let first : f 0 ≡ one (p (k, x)) = ap (λ n. one (p (n, x))) z in
    let rest : total (λ j. one (p (k + 1 + j, get_or xs j d))) (length xs) ≡ total (λ j. f (suc j)) (length xs) =
    total_same _ _ (length xs) (λ j _. ap (λ n. one (p (n, get_or xs j d))) (omega arith)) in
    let here : count_by p (enumerate_from k (x ∷ xs)) ≡ one (p (k, x)) + count_by p (enumerate_from (k + 1) xs) = sum_by-cons (λ q. one (p q)) (k, x) (enumerate_from (k + 1) xs) in
    omega (arith, here, first, rest, total_front f (length xs), count_total p d (k + 1) xs)

-- counted by their indices
pub ahead_count : (qs : List Quota) (r i : ℕ) → ahead qs r i ≡ count (λ j. comes tie (length qs) (remainder_at qs j) j r i) (length qs)
ahead_count qs r i =
    count_total (λ p. comes tie (length qs) p.1.remainder p.0 r i) (record { whole = record { 0 = 0 }; remainder = 0 }) 0 qs
    ∙ total_same _ _ (length qs) (λ j _. ap (λ n. one (comes tie (length qs) (remainder_at qs j) n r i)) (omega arith))

ahead_rank : (qs : List Quota) (i : ℕ) → ahead qs (remainder_at qs i) i ≡ rank_by (before tie (length qs) (remainder_at qs)) (length qs) i
ahead_rank qs i = ahead_count qs (remainder_at qs i) i

-- the quotas of some weights
pub quota_whole : (R W : ℕ) (ws : List Weight) (k : ℕ) → k < length ws → whole_at (map (quota R W) ws) k ≡ whole R (weight_at ws) W k
quota_whole R W [] k h = absurd (omega arith)
quota_whole R W (w ∷ ws) zero h = refl
quota_whole R W (w ∷ ws) (suc k) h = quota_whole R W ws k (omega arith)

quota_remainder : (R W : ℕ) (ws : List Weight) (k : ℕ) → k < length ws → remainder_at (map (quota R W) ws) k ≡ remainder R (weight_at ws) W k
quota_remainder R W [] k h = absurd (omega arith)
quota_remainder R W (w ∷ ws) zero h = refl
quota_remainder R W (w ∷ ws) (suc k) h = quota_remainder R W ws k (omega arith)

-- the rank of part i among the quotas of its weights
pub quota_rank : (R W : ℕ) (ws : List Weight) (i : ℕ) → i < length ws
    → ahead (map (quota R W) ws) (remainder_at (map (quota R W) ws) i) i ≡ rank_by (before tie (length ws) (remainder R (weight_at ws) W)) (length ws) i
quota_rank R W ws i h =
    ahead_rank (map (quota R W) ws) i
    ∙ ap (λ n. rank_by (before tie n (remainder_at (map (quota R W) ws))) n i) (length-map ws (quota R W))
    ∙ rank_same tie (length ws) (remainder_at (map (quota R W) ws)) (remainder R (weight_at ws) W) i h (quota_remainder R W ws)
