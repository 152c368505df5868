-- A line has no token just if it is blank.
use Rattle.std.proofs.Common.{◌≡◌, ℕ, ◌+◌, Bool, true, false, cond, ◌&&◌, eqb, List, [], ◌∷◌, ◌++◌, length, Decides, sym, refl, ap, ◌∙◌, arith}
use Rattle.text.specs.Bytes.{is_space}
use Rattle.text.specs.Lines.{is_blank}
use Rattle.text.specs.Tokens.{Lexeme, opening, closing, ended, lexed, tokens_of}

ended_some : (k a : ℕ) (acc : List ℕ) (ps : List (Lexeme × ℕ)) → ended k (a ∷ acc) ++ ps ≡ [] → ⊥
ended_some k a acc ps e = omega (arith, ap length e)

-- a run that is begun gives a token
begun : (bs : List ℕ) (k a : ℕ) (acc : List ℕ) → lexed k (a ∷ acc) bs ≡ [] → ⊥
begun [] k a acc e = omega (arith, ap length e)
begun (b ∷ bs) k a acc e =
    (elim (is_space b) as (λ s. cond s (ended k (a ∷ acc) ++ lexed (k + 1) [] bs)
    (cond (eqb b 40) (ended k (a ∷ acc) ++ (opening, k) ∷ lexed (k + 1) [] bs)
    (cond (eqb b 41) (ended k (a ∷ acc) ++ (closing, k) ∷ lexed (k + 1) [] bs) (lexed (k + 1) (a ∷ acc ++ b ∷ []) bs))) ≡ [] → ⊥) [
      | true ↦ λ e. ended_some k a acc (lexed (k + 1) [] bs) e
      | false ↦ elim (eqb b 40) as (λ s. cond s (ended k (a ∷ acc) ++ (opening, k) ∷ lexed (k + 1) [] bs)
          (cond (eqb b 41) (ended k (a ∷ acc) ++ (closing, k) ∷ lexed (k + 1) [] bs) (lexed (k + 1) (a ∷ acc ++ b ∷ []) bs)) ≡ [] → ⊥) [
            | true ↦ λ e. ended_some k a acc ((opening, k) ∷ lexed (k + 1) [] bs) e
            | false ↦ elim (eqb b 41) as (λ s. cond s (ended k (a ∷ acc) ++ (closing, k) ∷ lexed (k + 1) [] bs) (lexed (k + 1) (a ∷ acc ++ b ∷ []) bs) ≡ [] → ⊥)
                [ true ↦ λ e. ended_some k a acc ((closing, k) ∷ lexed (k + 1) [] bs) e | false ↦ begun bs (k + 1) a (acc ++ b ∷ []) ]
          ]
    ]) e

to_none : (l : List ℕ) (k : ℕ) → is_blank l ≡ true → lexed k [] l ≡ []
to_none [] k h = refl
to_none (b ∷ bs) k h =
    (elim (is_space b) as (λ s. (s && is_blank bs) ≡ true → cond s (lexed (k + 1) [] bs)
    (cond (eqb b 40) ((opening, k) ∷ lexed (k + 1) [] bs) (cond (eqb b 41) ((closing, k) ∷ lexed (k + 1) [] bs) (lexed (k + 1) (b ∷ []) bs))) ≡ [])
    [ true ↦ to_none bs (k + 1) | false ↦ λ h. absurd (let z : ◌≡◌ {A = ℕ} 0 1 = cc in omega arith) ]) h

from_none : (l : List ℕ) (k : ℕ) → lexed k [] l ≡ [] → is_blank l ≡ true
from_none [] k e = refl
from_none (b ∷ bs) k e =
    (elim (is_space b) as (λ s. cond s (lexed (k + 1) [] bs)
    (cond (eqb b 40) ((opening, k) ∷ lexed (k + 1) [] bs) (cond (eqb b 41) ((closing, k) ∷ lexed (k + 1) [] bs) (lexed (k + 1) (b ∷ []) bs))) ≡ []
    → (s && is_blank bs) ≡ true) [
      | true ↦ from_none bs (k + 1)
      | false ↦ elim (eqb b 40) as (λ s. cond s ((opening, k) ∷ lexed (k + 1) [] bs)
          (cond (eqb b 41) ((closing, k) ∷ lexed (k + 1) [] bs) (lexed (k + 1) (b ∷ []) bs)) ≡ [] → false ≡ true) [
            | true ↦ λ e. absurd (omega (arith, ap length e))
            | false ↦ elim (eqb b 41) as (λ s. cond s ((closing, k) ∷ lexed (k + 1) [] bs) (lexed (k + 1) (b ∷ []) bs) ≡ [] → false ≡ true)
                [ true ↦ λ e. absurd (omega (arith, ap length e)) | false ↦ λ e. absurd (begun bs (k + 1) b [] e) ]
          ]
    ]) e

pub blank_decides : (l : List ℕ) (r : Bool) → r ≡ is_blank l → Decides r (tokens_of l ≡ [])
blank_decides l r e = (λ t. to_none l 1 (sym e ∙ t), λ n. e ∙ from_none l 1 n)
