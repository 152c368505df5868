-- A result whose error is told as another.
use Rattle.std.proofs.Common.{◌≡◌, Ok, Err, Result, ap}
use Rattle.std.specs.Result.{MatchResult, IsErrAnd}

module _ {T E D : Type 0} (h : E → D) where
  abbrev pub told_as : Result T E → Result T D
  told_as (Ok x) = Ok x
  told_as (Err e) = Err (h e)

  -- what `map_err` answers
  pub mapped : (r : Result T E) (q : Result T D) (Q : E → D → Type 0) → MatchResult r (λ x. q ≡ Ok x) (λ e. IsErrAnd q (Q e))
      → ((e : E) (d : D) → Q e d → d ≡ h e) → q ≡ told_as r
  mapped (Ok x) q Q m f = m
  mapped (Err e) (Ok x) Q m f = absurd m
  mapped (Err e) (Err d) Q m f = ap Err (f e d m)

  pub was_ok : (r : Result T E) (x : T) → told_as r ≡ Ok x → r ≡ Ok x
  was_ok (Ok y) x e = let z : y ≡ x = cc in ap Ok z
  was_ok (Err y) x e = cc
