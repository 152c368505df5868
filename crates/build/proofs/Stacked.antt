-- The volume of what a stack holds.
use Rattle.std.proofs.Common.{◌≡◌, ℕ, ◌+◌, ◌-◌, ◌^◌, ◌≤◌, min, List, [], ◌∷◌, arith}
use Rattle.std.specs.List.{FoldsTo}
use Rattle.geometry.specs.declared.scope.Scope.{Scope}
use Rattle.geometry.specs.Boxes.{volume_of}
use Rattle.derivation.specs.Laws.{scope_volume}

-- a fold that adds each volume, and stays at the greatest number
pub volumes_fold : (R : ℕ → Scope → ℕ → Type 0) (ws : List Scope) (a b : ℕ) → a ≤ 2 ^ 64 - 1 → FoldsTo R a ws b
    → ((a : ℕ) (w : Scope) (b : ℕ) → R a w b → b ≡ min (a + volume_of w.cuboid) (2 ^ 64 - 1)) → b ≡ min (a + scope_volume ws) (2 ^ 64 - 1)
volumes_fold R [] a b h p f = omega (arith, p)
volumes_fold R (w ∷ ws) a b h (j, r, p) f =
    let e = f a w j r in
    omega (arith, e, volumes_fold R ws j b (omega (arith, e)) p f)
