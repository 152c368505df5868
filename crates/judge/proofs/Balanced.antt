-- The brackets of a line, by its tokens.
use Rattle.std.proofs.Common.{◌≡◌, ℕ, ◌+◌, ◌-◌, Bool, true, false, cond, not, ◌&&◌, eqb, ltb, List, [], ◌∷◌, ◌++◌, length, drop, is_some, Some, Option, sym, refl, ap, ◌∙◌, arith, length-drop}
use Rattle.std.proofs.lemmas.Bool.{cond-false, eqb-true, ne_eqb}
use Rattle.stack.specs.Held.{top_of}
use Rattle.text.proofs.Scanned.{scan_is}
use Rattle.text.specs.Bytes.{is_digit}
use Rattle.text.specs.Findings.{levels, unbalanced}
use Rattle.text.specs.Scans.{scanned}
use Rattle.text.specs.Tokens.{Lexeme, opening, closing, number, word, ended, lexed, tokens_of}
use Rattle.grammar.specs.Forms.{Guard, guard, Part, fix, float, Body, make, refer, tile, split, Form, material, rule, lot, spell_guards, spell_parts, spell_body, spell, plain}

-- the pass with a stack, over tokens
abbrev over : List ℕ → List (Lexeme × ℕ) → Option ℕ
over st [] = top_of st
over st ((opening, c) ∷ ps) = cond (ltb (length st) levels) (over (c ∷ st) ps) (Some c)
over st ((closing, c) ∷ ps) = cond (ltb 0 (length st)) (over (drop 1 st) ps) (Some c)
over st ((number w, c) ∷ ps) = over st ps
over st ((word w, c) ∷ ps) = over st ps

over_run : (t : Bool) (st w : List ℕ) (c : ℕ) (ps : List (Lexeme × ℕ)) → over st ((cond t (number w) (word w), c) ∷ ps) ≡ over st ps
over_run true st w c ps = refl
over_run false st w c ps = refl

over_ended : (st acc : List ℕ) (k : ℕ) (ps : List (Lexeme × ℕ)) → over st (ended k acc ++ ps) ≡ over st ps
over_ended st [] k ps = refl
over_ended st (a ∷ acc) k ps = over_run (is_digit a) st (a ∷ acc) (k - length (a ∷ acc)) ps

over_last : (st acc : List ℕ) (k : ℕ) → top_of st ≡ over st (ended k acc)
over_last st [] k = refl
over_last st (a ∷ acc) k = sym (over_run (is_digit a) st (a ∷ acc) (k - length (a ∷ acc)) [])

module _ (k b : ℕ) (st acc bs : List ℕ) (rest : (st acc : List ℕ) → scanned (k + 1) st bs ≡ over st (lexed (k + 1) acc bs)) where
  spaced : b ≡ 32 → scanned k st (b ∷ bs) ≡ over st (ended k acc ++ lexed (k + 1) [] bs)
  spaced e =
      cond-false _ _ _ (ne_eqb b 40 (λ q. omega arith))
      ∙ (cond-false _ _ _ (ne_eqb b 41 (λ q. omega arith)) ∙ (rest st [] ∙ sym (over_ended st acc k (lexed (k + 1) [] bs))))

  other : cond (eqb b 40) (cond (ltb (length st) levels) (scanned (k + 1) (k ∷ st) bs) (Some k))
      (cond (eqb b 41) (cond (ltb 0 (length st)) (scanned (k + 1) (drop 1 st) bs) (Some k)) (scanned (k + 1) st bs))
      ≡ over st (cond (eqb b 40) (ended k acc ++ (opening, k) ∷ lexed (k + 1) [] bs)
      (cond (eqb b 41) (ended k acc ++ (closing, k) ∷ lexed (k + 1) [] bs) (lexed (k + 1) (acc ++ b ∷ []) bs)))
  other =
      elim (eqb b 40) as (λ s. cond s (cond (ltb (length st) levels) (scanned (k + 1) (k ∷ st) bs) (Some k))
      (cond (eqb b 41) (cond (ltb 0 (length st)) (scanned (k + 1) (drop 1 st) bs) (Some k)) (scanned (k + 1) st bs))
      ≡ over st (cond s (ended k acc ++ (opening, k) ∷ lexed (k + 1) [] bs)
      (cond (eqb b 41) (ended k acc ++ (closing, k) ∷ lexed (k + 1) [] bs) (lexed (k + 1) (acc ++ b ∷ []) bs)))) [
        | true ↦ ap (λ o. cond (ltb (length st) levels) o (Some k)) (rest (k ∷ st) []) ∙ sym (over_ended st acc k ((opening, k) ∷ lexed (k + 1) [] bs))
        | false ↦ elim (eqb b 41) as (λ s. cond s (cond (ltb 0 (length st)) (scanned (k + 1) (drop 1 st) bs) (Some k)) (scanned (k + 1) st bs)
            ≡ over st (cond s (ended k acc ++ (closing, k) ∷ lexed (k + 1) [] bs) (lexed (k + 1) (acc ++ b ∷ []) bs))) [
              | true ↦ ap (λ o. cond (ltb 0 (length st)) o (Some k)) (rest (drop 1 st) []) ∙ sym (over_ended st acc k ((closing, k) ∷ lexed (k + 1) [] bs))
              | false ↦ rest st (acc ++ b ∷ [])
            ]
      ]

  one_byte : scanned k st (b ∷ bs) ≡ over st (lexed k acc (b ∷ bs))
  one_byte =
      (elim (eqb b 32) as (λ s. eqb b 32 ≡ s → scanned k st (b ∷ bs) ≡ over st (cond s (ended k acc ++ lexed (k + 1) [] bs)
      (cond (eqb b 40) (ended k acc ++ (opening, k) ∷ lexed (k + 1) [] bs)
      (cond (eqb b 41) (ended k acc ++ (closing, k) ∷ lexed (k + 1) [] bs) (lexed (k + 1) (acc ++ b ∷ []) bs)))))
      [ true ↦ λ e. spaced (eqb-true b 32 e) | false ↦ λ e. other ]) refl

by_tokens : (bs : List ℕ) (k : ℕ) (st acc : List ℕ) → scanned k st bs ≡ over st (lexed k acc bs)
by_tokens [] k st acc = over_last st acc k
by_tokens (b ∷ bs) k st acc = one_byte k b st acc bs (λ st acc. by_tokens bs (k + 1) st acc)

-- brackets that match, where d are open before
abbrev pub balanced : ℕ → List Lexeme → Bool
balanced d [] = eqb d 0
balanced d (opening ∷ ts) = ltb d levels && balanced (d + 1) ts
balanced d (closing ∷ ts) = ltb 0 d && balanced (d - 1) ts
balanced d (number w ∷ ts) = balanced d ts
balanced d (word w ∷ ts) = balanced d ts

tested : (b : Bool) (c : ℕ) (o : Option ℕ) (t : Bool) → is_some o ≡ not t → is_some (cond b o (Some c)) ≡ not (b && t)
tested true c o t e = e
tested false c o t e = refl

over_balanced : (ps : List (Lexeme × ℕ)) (st : List ℕ) → is_some (over st ps) ≡ not (balanced (length st) (plain ps))
over_balanced [] [] = refl
over_balanced [] (c ∷ st) = sym (ap not (ne_eqb (length (c ∷ st)) 0 (λ e. omega arith)))
over_balanced ((opening, c) ∷ ps) st =
    let n : length (c ∷ st) ≡ length st + 1 = omega arith in
    tested (ltb (length st) levels) c _ _ (over_balanced ps (c ∷ st) ∙ ap (λ d. not (balanced d (plain ps))) n)
over_balanced ((closing, c) ∷ ps) st =
    tested (ltb 0 (length st)) c _ _ (over_balanced ps (drop 1 st) ∙ ap (λ d. not (balanced d (plain ps))) (length-drop 1 st))
over_balanced ((number w, c) ∷ ps) st = over_balanced ps st
over_balanced ((word w, c) ∷ ps) st = over_balanced ps st

pub brackets : (l : List ℕ) → is_some (unbalanced l) ≡ not (balanced 0 (plain (tokens_of l)))
brackets l = ap is_some (sym (scan_is l) ∙ by_tokens l 1 [] []) ∙ over_balanced (tokens_of l) []

-- the brackets of a spelling match

bal_parts : (ps : List Part) (us : List Lexeme) → balanced 2 (spell_parts ps us) ≡ balanced 2 us
bal_parts [] us = refl
bal_parts (fix n w ∷ ps) us = bal_parts ps us
bal_parts (float n w ∷ ps) us = bal_parts ps us

bal_body : (b : Body) (us : List Lexeme) → balanced 1 (spell_body b us) ≡ balanced 1 us
bal_body (make w) us = refl
bal_body (refer w) us = refl
bal_body (tile a n w) us = refl
bal_body (split a (fix n w) ps) us = bal_parts ps (closing ∷ us)
bal_body (split a (float n w) ps) us = bal_parts ps (closing ∷ us)

bal_guards : (gs : List Guard) (us : List Lexeme) → balanced 1 (spell_guards gs us) ≡ balanced 1 us
bal_guards [] us = refl
bal_guards (guard a l h ∷ gs) us = bal_guards gs us

pub bal_form : (f : Form) → balanced 0 (spell f) ≡ true
bal_form (material w) = refl
bal_form (rule w gs b) = bal_guards gs (spell_body b (closing ∷ [])) ∙ bal_body b (closing ∷ [])
bal_form (lot px py pz sx sy sz w) = refl
