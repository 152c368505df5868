-- Steps one after another.
use Rattle.std.proofs.Common.{◌≡◌, ℕ, ◌+◌, List, [], ◌∷◌, ◌++◌, Ok, Err, Result, refl, subst, add-zero, add_assoc}
use Rattle.std.proofs.lemmas.List.{append_assoc, append-nil}
use Rattle.geometry.specs.declared.scope.Scope.{Scope}
use Rattle.geometry.specs.declared.block.Block.{Block}
use Rattle.book.specs.declared.line.Line.{Line}
use Rattle.sinks.specs.Meaning.{Parts, Taking, Chain}
use Rattle.derivation.specs.Derive.{Derived, begun, step}
use Rattle.steps.specs.declared.stop.Stop.{Stop}
use Rattle.steps.specs.Acting.{Moved, Stepped}

pub derived_trans : {ls : List Line} {first mid last : List Scope} {k j : ℕ} {bs cs : List Block} → Derived ls first k bs mid → Derived ls mid j cs last → Derived ls first (k + j) (bs ++ cs) last
derived_trans {k = k} {bs = bs} d begun = rw (add-zero, append-nil) d
derived_trans {k = k} {bs = bs} d (step {k = j} {bs = cs} e g) = rw (← add_assoc, ← append_assoc) (step (derived_trans d e) g)

pub chain_trans : {S : Type 0} (R : S → Block → S → Type 0) (x y z : S) (bs cs : List Block) → Chain R x bs y → Chain R y cs z → Chain R x (bs ++ cs) z
chain_trans R x y z [] cs p q = subst (λ u. Chain R u cs z) p q
chain_trans R x y z (b ∷ bs) cs (u, t, p) q = (u, t, chain_trans R u y z bs cs p q)

module _ {S : Type 0} (edge : ℕ) (parts : S → Parts) (took : S → Block → S → Type 0) (kept : S → S → Type 0) (ls : List Line) where
  -- n steps so far
  pub record SoFar (first last : List Scope) (n : ℕ) (x y : S) : Type 0 where
    pub blocks : List Block
    pub derived : Derived ls first n blocks last
    pub taken : Chain (Taking edge parts took) x blocks y

  pub moved_on : (cap : ℕ) (w v : List Scope) (x y : S) (r : Result (Unit {0}) Stop) → ((e : Stop) → r ≡ Err e → ⊥) → Stepped edge parts took kept ls w v cap x y r → Moved edge parts took kept ls w v x y
  moved_on cap w v x y (Ok u) h s = s
  moved_on cap w v x y (Err e) h s = absurd (h e refl)

  pub none_yet : (w : List Scope) (x : S) → SoFar w w 0 x x
  none_yet w x = record { blocks = []; derived = begun; taken = refl }

  pub one_more : {w v u : List Scope} {n : ℕ} {x y z : S} → SoFar w v n x y → Moved edge parts took kept ls v u y z → SoFar w u (n + 1) x z
  one_more {x = x} {y} {z} m s = record {
    blocks = m.blocks ++ s.blocks;
    derived = derived_trans m.derived s.derived;
    taken = chain_trans (Taking edge parts took) x y z m.blocks s.blocks m.taken s.taken;
  }
