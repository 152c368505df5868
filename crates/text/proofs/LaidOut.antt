-- The lexemes of a line, laid out at their columns, are the line.
use Rattle.std.proofs.Common.{◌≡◌, ℕ, suc, ◌+◌, ◌-◌, ◌<◌, ◌≤◌, Bool, true, false, cond, eqb, List, [], ◌∷◌, ◌++◌, length, replicate, sym, refl, ap, ◌∙◌, arith}
use Rattle.std.proofs.lemmas.List.{append-nil, append_assoc, length_push}
use Rattle.std.proofs.lemmas.Bool.{eqb-true}
use Rattle.text.specs.Bytes.{is_digit}
use Rattle.text.specs.Tokens.{Lexeme, opening, closing, number, word, run_of, ended, lexed, tokens_of, spelled, laid_out}

pub spelled_cond : (t : Bool) (w : List ℕ) → spelled (cond t (number w) (word w)) ≡ w
spelled_cond true w = refl
spelled_cond false w = refl

-- a lexeme that begins at once
laid_here : (j n c : ℕ) (t : Lexeme) (w : List ℕ) (ps : List (Lexeme × ℕ)) → c ≡ j → spelled t ≡ w
    → laid_out j n ((t, c) ∷ ps) ≡ w ++ laid_out (c + length w) n ps
laid_here j n c t w ps e s =
    let z : c - j ≡ 0 = omega arith in
    ap (λ m. replicate m 32 ++ (spelled t ++ laid_out (c + length (spelled t)) n ps)) z
    ∙ ap (λ v. v ++ laid_out (c + length v) n ps) s

-- the run that was being read
laid_run : (j k n : ℕ) (acc : List ℕ) (ps : List (Lexeme × ℕ)) → j + length acc ≡ k
    → laid_out j n (ended k acc ++ ps) ≡ acc ++ laid_out k n ps
laid_run j k n [] ps e = let q : j ≡ k = omega arith in ap (λ i. laid_out i n ps) q
laid_run j k n (a ∷ acc) ps e =
    let c : k - length (a ∷ acc) ≡ j = omega arith in
    let q : k - length (a ∷ acc) + length (a ∷ acc) ≡ k = omega arith in
    laid_here j n (k - length (a ∷ acc)) (run_of (a ∷ acc)) (a ∷ acc) ps c (spelled_cond (is_digit a) (a ∷ acc))
    ∙ ap (λ i. (a ∷ acc) ++ laid_out i n ps) q

-- the first lexeme stands at column j or further right
abbrev pub From : ℕ → List (Lexeme × ℕ) → Type 0
From j [] = Unit {0}
From j (p ∷ ps) = j ≤ p.1

from_ended : (j k : ℕ) (acc : List ℕ) (ps : List (Lexeme × ℕ)) → j + length acc ≡ k → From j ps → From j (ended k acc ++ ps)
from_ended j k [] ps e f = f
from_ended j k (a ∷ acc) ps e f = omega arith

from_later : (j k : ℕ) (ps : List (Lexeme × ℕ)) → j ≤ k → From k ps → From j ps
from_later j k [] h f = tt
from_later j k (p ∷ ps) h f = omega arith

pub lexed_from : (bs : List ℕ) (j k : ℕ) (acc : List ℕ) → j + length acc ≡ k → From j (lexed k acc bs)
lexed_from [] j k [] e = tt
lexed_from [] j k (a ∷ acc) e = omega arith
lexed_from (b ∷ bs) j k acc e =
    let later : From j (lexed (k + 1) [] bs) = from_later j (k + 1) (lexed (k + 1) [] bs) (omega arith) (lexed_from bs (k + 1) (k + 1) [] (omega arith)) in
    let q : j + length (acc ++ b ∷ []) ≡ k + 1 = omega (arith, length_push acc b) in
    elim (eqb b 32) as (λ s. From j (cond s (ended k acc ++ lexed (k + 1) [] bs)
    (cond (eqb b 40) (ended k acc ++ (opening, k) ∷ lexed (k + 1) [] bs)
    (cond (eqb b 41) (ended k acc ++ (closing, k) ∷ lexed (k + 1) [] bs) (lexed (k + 1) (acc ++ b ∷ []) bs))))) [
      | true ↦ from_ended j k acc (lexed (k + 1) [] bs) e later
      | false ↦ elim (eqb b 40) as (λ s. From j (cond s (ended k acc ++ (opening, k) ∷ lexed (k + 1) [] bs)
          (cond (eqb b 41) (ended k acc ++ (closing, k) ∷ lexed (k + 1) [] bs) (lexed (k + 1) (acc ++ b ∷ []) bs)))) [
            | true ↦ from_ended j k acc ((opening, k) ∷ lexed (k + 1) [] bs) e (omega arith)
            | false ↦ elim (eqb b 41) as (λ s. From j (cond s (ended k acc ++ (closing, k) ∷ lexed (k + 1) [] bs) (lexed (k + 1) (acc ++ b ∷ []) bs)))
                [ true ↦ from_ended j k acc ((closing, k) ∷ lexed (k + 1) [] bs) e (omega arith) | false ↦ lexed_from bs j (k + 1) (acc ++ b ∷ []) q ]
          ]
    ]

-- a space before what stands further right
laid_space : (k n : ℕ) (ps : List (Lexeme × ℕ)) → k < n → From (k + 1) ps → laid_out k n ps ≡ 32 ∷ laid_out (k + 1) n ps
laid_space k n [] h f = let q : n - k ≡ suc (n - (k + 1)) = omega arith in ap (λ m. replicate m 32) q
laid_space k n (p ∷ ps) h f =
    let q : p.1 - k ≡ suc (p.1 - (k + 1)) = omega arith in
    ap (λ m. replicate m 32 ++ (spelled p.0 ++ laid_out (p.1 + length (spelled p.0)) n ps)) q

-- one byte after the run acc
after_run : (acc : List ℕ) (b c : ℕ) (us vs : List ℕ) → c ≡ b → us ≡ vs → acc ++ c ∷ us ≡ acc ++ b ∷ vs
after_run acc b c us vs e f = cc

module _ (b k n j : ℕ) (bs acc : List ℕ) (e : j + length acc ≡ k) (m : n ≡ k + 1 + length bs)
    (rest : laid_out (k + 1) n (lexed (k + 1) [] bs) ≡ bs)
    (more : laid_out j n (lexed (k + 1) (acc ++ b ∷ []) bs) ≡ (acc ++ b ∷ []) ++ bs) where
  spaced : b ≡ 32 → laid_out j n (ended k acc ++ lexed (k + 1) [] bs) ≡ acc ++ b ∷ bs
  spaced q =
      laid_run j k n acc (lexed (k + 1) [] bs) e
      ∙ (ap (λ v. acc ++ v) (laid_space k n (lexed (k + 1) [] bs) (omega arith) (lexed_from bs (k + 1) (k + 1) [] (omega arith)))
      ∙ after_run acc b 32 _ bs (sym q) rest)

  bracketed : (t : Lexeme) (c : ℕ) → spelled t ≡ c ∷ [] → b ≡ c → laid_out j n (ended k acc ++ (t, k) ∷ lexed (k + 1) [] bs) ≡ acc ++ b ∷ bs
  bracketed t c s q =
      laid_run j k n acc ((t, k) ∷ lexed (k + 1) [] bs) e
      ∙ (ap (λ v. acc ++ v) (laid_here k n k t (c ∷ []) (lexed (k + 1) [] bs) refl s) ∙ after_run acc b c _ bs (sym q) rest)

  one_byte : laid_out j n (lexed k acc (b ∷ bs)) ≡ acc ++ b ∷ bs
  one_byte =
      (elim (eqb b 32) as (λ s. eqb b 32 ≡ s → laid_out j n (cond s (ended k acc ++ lexed (k + 1) [] bs)
      (cond (eqb b 40) (ended k acc ++ (opening, k) ∷ lexed (k + 1) [] bs)
      (cond (eqb b 41) (ended k acc ++ (closing, k) ∷ lexed (k + 1) [] bs) (lexed (k + 1) (acc ++ b ∷ []) bs)))) ≡ acc ++ b ∷ bs) [
        | true ↦ λ q. spaced (eqb-true b 32 q)
        | false ↦ λ _. (elim (eqb b 40) as (λ s. eqb b 40 ≡ s → laid_out j n (cond s (ended k acc ++ (opening, k) ∷ lexed (k + 1) [] bs)
            (cond (eqb b 41) (ended k acc ++ (closing, k) ∷ lexed (k + 1) [] bs) (lexed (k + 1) (acc ++ b ∷ []) bs))) ≡ acc ++ b ∷ bs) [
              | true ↦ λ q. bracketed opening 40 refl (eqb-true b 40 q)
              | false ↦ λ _. (elim (eqb b 41) as (λ s. eqb b 41 ≡ s
                  → laid_out j n (cond s (ended k acc ++ (closing, k) ∷ lexed (k + 1) [] bs) (lexed (k + 1) (acc ++ b ∷ []) bs)) ≡ acc ++ b ∷ bs)
                  [ true ↦ λ q. bracketed closing 41 refl (eqb-true b 41 q) | false ↦ λ _. more ∙ append_assoc acc (b ∷ []) bs ]) refl
            ]) refl
      ]) refl

laid_back : (bs : List ℕ) (j k n : ℕ) (acc : List ℕ) → j + length acc ≡ k → n ≡ k + length bs → laid_out j n (lexed k acc bs) ≡ acc ++ bs
laid_back [] j k n acc e m =
    let z : n - k ≡ 0 = omega arith in
    ap (laid_out j n) (sym (append-nil (ended k acc))) ∙ (laid_run j k n acc [] e ∙ ap (λ i. acc ++ replicate i 32) z)
laid_back (b ∷ bs) j k n acc e m =
    one_byte b k n j bs acc e (omega arith) (laid_back bs (k + 1) (k + 1) n [] (omega arith) (omega arith))
    (laid_back bs j (k + 1) n (acc ++ b ∷ []) (omega (arith, length_push acc b)) (omega arith))

pub laid_out_lem : (l : List ℕ) → laid_out 1 (length l + 1) (tokens_of l) ≡ l
laid_out_lem l = laid_back l 1 1 (length l + 1) [] refl (omega arith)
