-- The runs among the tokens of a line are whole.
use Rattle.std.proofs.Common.{◌≡◌, ℕ, ◌+◌, ◌<◌, ◌≤◌, Bool, true, false, cond, not, eqb, ◌⊎◌, List, [], ◌∷◌, ◌++◌, length, get_or, refl, ap, inl, inr, ⊎_elim, arith}
use Rattle.std.proofs.lemmas.List.{length_push}
use Rattle.std.proofs.lemmas.Bool.{and_from, and_parts, or_left, or_right, lt-ltb, not_from_false}
use Rattle.text.specs.Bytes.{is_digit, is_space, separates}
use Rattle.text.specs.Tokens.{Lexeme, opening, closing, number, word, run_of, ended, lexed, tokens_of, is_run, is_formed, are_formed, is_bracket, are_apart, Tokenized}
use Rattle.text.proofs.LaidOut.{From, lexed_from, spelled_cond, laid_out_lem}

no_sep : (b : ℕ) → is_space b ≡ false → eqb b 40 ≡ false → eqb b 41 ≡ false → separates b ≡ false
no_sep b p q r = rw (p, q, r)

run_push : (acc : List ℕ) (b : ℕ) → is_run acc ≡ true → separates b ≡ false → is_run (acc ++ b ∷ []) ≡ true
run_push [] b h e = and_from _ true (not_from_false (separates b) e) refl
run_push (a ∷ acc) b h e = let p = and_parts (not (separates a)) (is_run acc) h in and_from _ _ p.0 (run_push acc b p.1 e)

run_formed : (t : Bool) (w : List ℕ) → is_digit (get_or w 0 0) ≡ t → 0 < length w → is_run w ≡ true → is_formed (cond t (number w) (word w)) ≡ true
run_formed true w e h r = and_from _ _ e (and_from _ _ (lt-ltb 0 (length w) h) r)
run_formed false w e h r = and_from _ _ (not_from_false (is_digit (get_or w 0 0)) e) (and_from _ _ (lt-ltb 0 (length w) h) r)

ended_formed : (k : ℕ) (acc : List ℕ) (ps : List (Lexeme × ℕ)) → is_run acc ≡ true → are_formed ps ≡ true → are_formed (ended k acc ++ ps) ≡ true
ended_formed k [] ps r h = h
ended_formed k (a ∷ acc) ps r h = and_from _ _ (run_formed (is_digit a) (a ∷ acc) refl (omega arith) r) h

-- the first lexeme is a bracket, or stands past column k
abbrev After : ℕ → List (Lexeme × ℕ) → Type 0
After k [] = Unit {0}
After k (p ∷ ps) = (is_bracket p.0 ≡ true) ⊎ (k < p.1)

after_from : (k : ℕ) (ps : List (Lexeme × ℕ)) → From (k + 1) ps → After k ps
after_from k [] f = tt
after_from k (p ∷ ps) f = inr (omega arith)

ended_apart : (k : ℕ) (acc : List ℕ) (ps : List (Lexeme × ℕ)) → length acc ≤ k → After k ps → are_apart ps ≡ true → are_apart (ended k acc ++ ps) ≡ true
ended_apart k [] ps h f e = e
ended_apart k (a ∷ acc) [] h f e = refl
ended_apart k (a ∷ acc) (q ∷ ps) h f e =
    and_from _ _
    (or_right (is_bracket (run_of (a ∷ acc))) _
    (⊎_elim (λ b. or_left (is_bracket q.0) _ b)
    (λ b. or_right (is_bracket q.0) _
    (lt-ltb _ q.1 (omega (arith, b, ap length (spelled_cond (is_digit a) (a ∷ acc)))))) f)) e

bracket_apart : (t : Lexeme) (k : ℕ) (ps : List (Lexeme × ℕ)) → is_bracket t ≡ true → are_apart ps ≡ true → are_apart ((t, k) ∷ ps) ≡ true
bracket_apart t k [] b e = refl
bracket_apart t k (q ∷ ps) b e = and_from _ _ (or_left (is_bracket t) _ b) e

-- both at once
abbrev Good : List (Lexeme × ℕ) → Type 0
Good ps = (are_formed ps ≡ true) × (are_apart ps ≡ true)

module _ (b k : ℕ) (bs acc : List ℕ) (r : is_run acc ≡ true) (h : length acc ≤ k)
    (rest : Good (lexed (k + 1) [] bs)) (on : separates b ≡ false → Good (lexed (k + 1) (acc ++ b ∷ []) bs)) where
  spaced : Good (ended k acc ++ lexed (k + 1) [] bs)
  spaced = (
    ended_formed k acc (lexed (k + 1) [] bs) r rest.0,
    ended_apart k acc (lexed (k + 1) [] bs) h (after_from k (lexed (k + 1) [] bs) (lexed_from bs (k + 1) (k + 1) [] (omega arith))) rest.1,
  )

  bracketed : (t : Lexeme) → is_formed t ≡ true → is_bracket t ≡ true → Good (ended k acc ++ (t, k) ∷ lexed (k + 1) [] bs)
  bracketed t f e = (
    ended_formed k acc ((t, k) ∷ lexed (k + 1) [] bs) r (and_from _ _ f rest.0),
    ended_apart k acc ((t, k) ∷ lexed (k + 1) [] bs) h (inl e) (bracket_apart t k (lexed (k + 1) [] bs) e rest.1),
  )

  one_byte : Good (lexed k acc (b ∷ bs))
  one_byte =
      (elim (is_space b) as (λ s. is_space b ≡ s → Good (cond s (ended k acc ++ lexed (k + 1) [] bs)
      (cond (eqb b 40) (ended k acc ++ (opening, k) ∷ lexed (k + 1) [] bs)
      (cond (eqb b 41) (ended k acc ++ (closing, k) ∷ lexed (k + 1) [] bs) (lexed (k + 1) (acc ++ b ∷ []) bs))))) [
        | true ↦ λ _. spaced
        | false ↦ λ p. (elim (eqb b 40) as (λ s. eqb b 40 ≡ s → Good (cond s (ended k acc ++ (opening, k) ∷ lexed (k + 1) [] bs)
            (cond (eqb b 41) (ended k acc ++ (closing, k) ∷ lexed (k + 1) [] bs) (lexed (k + 1) (acc ++ b ∷ []) bs)))) [
              | true ↦ λ _. bracketed opening refl refl
              | false ↦ λ q. (elim (eqb b 41) as (λ s. eqb b 41 ≡ s
                  → Good (cond s (ended k acc ++ (closing, k) ∷ lexed (k + 1) [] bs) (lexed (k + 1) (acc ++ b ∷ []) bs)))
                  [ true ↦ λ _. bracketed closing refl refl | false ↦ λ e. on (no_sep b p q e) ]) refl
            ]) refl
      ]) refl

lexed_good : (bs : List ℕ) (k : ℕ) (acc : List ℕ) → is_run acc ≡ true → length acc ≤ k → Good (lexed k acc bs)
lexed_good [] k [] r h = (refl, refl)
lexed_good [] k (a ∷ acc) r h = (and_from _ true (run_formed (is_digit a) (a ∷ acc) refl (omega arith) r) refl, refl)
lexed_good (b ∷ bs) k acc r h =
    one_byte b k bs acc r h (lexed_good bs (k + 1) [] refl (omega arith))
    (λ e. lexed_good bs (k + 1) (acc ++ b ∷ []) (run_push acc b r e) (omega (arith, length_push acc b)))

pub tokenized : (l : List ℕ) → Tokenized l (tokens_of l)
tokenized l =
    let g = lexed_good l 1 [] refl (omega arith) in record { laid = laid_out_lem l; formed = g.0; apart = g.1 }
