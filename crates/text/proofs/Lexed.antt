-- One byte more of a line's lexemes.
use Rattle.std.proofs.Common.{◌≡◌, ℕ, ◌+◌, ◌-◌, ◌<◌, ◌≤◌, Bool, true, false, cond, not, ◌||◌, eqb, List, [], ◌∷◌, ◌++◌, length, get_or, take, drop, Some, None, Option, sym, refl, ap, ◌∙◌, ⊎_elim, add-zero, arith}
use Rattle.std.proofs.lemmas.List.{at_drop_more, at_drop_all, append-nil}
use Rattle.std.proofs.lemmas.Bool.{cond-true, cond-false, cases_lt, eq-eqb, ne_eqb, cases_Bool, both_ways, not-true, not-false}
use Rattle.std.proofs.lemmas.List.Edits.{length-between, get_or-between, between_more}
use Rattle.std.specs.List.{between}
use Rattle.std.proofs.lemmas.Bool.Decides.{nat_tests}
use Rattle.text.proofs.Along.{along}
use Rattle.std.specs.Option.{unwrap_or}
use Rattle.text.specs.Bytes.{kind_of, is_digit, is_space, separates, FirstFrom}
use Rattle.text.specs.Tokens.{lexed, ended, tokens_at, opening, closing, number, word, Lexeme, run_of, Skipped, RunTo}
use Rattle.text.specs.declared.bytes.Kind.{Kind}
use Rattle.text.specs.declared.bytes.Kind.TheVariants.{Digit, Open, Close}

skip_more : (xs : List ℕ) (i : ℕ) → i < length xs → is_space (get_or xs i 0) ≡ true → tokens_at xs i ≡ tokens_at xs (i + 1)
skip_more xs i h e = at_drop_more (lexed (i + 1) []) xs i 0 h ∙ cond-true _ _ _ e

-- spaces from `at` to r
skip_to : (xs : List ℕ) (at r : ℕ) → at ≤ r → r ≤ length xs → ((k : ℕ) → at ≤ k → k < r → is_space (get_or xs k 0) ≡ true) → tokens_at xs at ≡ tokens_at xs r
skip_to xs at r h l f = along (tokens_at xs) at r h (λ i p q. skip_more xs i (omega arith) (f i p q))

none_of : {X : Type 0} (a b c : Bool) (x y z w : X) → (a || b || c) ≡ false → cond a x (cond b y (cond c z w)) ≡ w
none_of true true true x y z w e = cc
none_of true true false x y z w e = cc
none_of true false true x y z w e = cc
none_of true false false x y z w e = cc
none_of false true true x y z w e = cc
none_of false true false x y z w e = cc
none_of false false true x y z w e = cc
none_of false false false x y z w e = refl

one_of : {X : Type 0} (a b c : Bool) (e x y z v w : List X) → (a || b || c) ≡ true
    → cond a (e ++ x) (cond b (e ++ y) (cond c (e ++ z) v)) ≡ e ++ cond a x (cond b y (cond c z w))
one_of true true true e x y z v w h = refl
one_of true true false e x y z v w h = refl
one_of true false true e x y z v w h = refl
one_of true false false e x y z v w h = refl
one_of false true true e x y z v w h = refl
one_of false true false e x y z v w h = refl
one_of false false true e x y z v w h = refl
one_of false false false e x y z v w h = cc

run_more : (xs acc : List ℕ) (i k : ℕ) → i < length xs → separates (get_or xs i 0) ≡ false
    → lexed k acc (drop i xs) ≡ lexed (k + 1) (acc ++ get_or xs i 0 ∷ []) (drop (i + 1) xs)
run_more xs acc i k h e =
    at_drop_more (lexed k acc) xs i 0 h ∙ none_of (eqb (get_or xs i 0) 32) (eqb (get_or xs i 0) 40) (eqb (get_or xs i 0) 41) _ _ _ _ e

run_past : (xs acc : List ℕ) (i : ℕ) → length xs ≤ i → lexed (i + 1) acc (drop i xs) ≡ ended (i + 1) acc ++ tokens_at xs i
run_past xs acc i h =
    at_drop_all (lexed (i + 1) acc) xs i h
    ∙ (sym (append-nil (ended (i + 1) acc)) ∙ ap (λ t. ended (i + 1) acc ++ t) (sym (at_drop_all (lexed (i + 1) []) xs i h)))

run_stop : (xs acc : List ℕ) (i : ℕ) → i < length xs → separates (get_or xs i 0) ≡ true
    → lexed (i + 1) acc (drop i xs) ≡ ended (i + 1) acc ++ tokens_at xs i
run_stop xs acc i h e =
    at_drop_more (lexed (i + 1) acc) xs i 0 h
    ∙ (one_of (eqb (get_or xs i 0) 32) (eqb (get_or xs i 0) 40) (eqb (get_or xs i 0) 41) (ended (i + 1) acc) _ _ _ _ _ e
    ∙ ap (λ t. ended (i + 1) acc ++ t) (sym (at_drop_more (lexed (i + 1) []) xs i 0 h)))

-- a run that stopped at i has moved past the place where it began, unless it could not begin there
moved : (xs : List ℕ) (at i : ℕ) → at ≤ i → separates (get_or xs i 0) ≡ true → separates (get_or xs at 0) ≡ false → at < i
moved xs at i h e f =
    ⊎_elim (λ l. l)
    (λ l. let q : at ≡ i = omega arith in
    let z : ◌≡◌ {A = Bool} true false = sym e ∙ (ap (λ k. separates (get_or xs k 0)) (sym q) ∙ f) in
    let y : ◌≡◌ {A = ℕ} 0 1 = cc in
    omega arith) (cases_lt at i)

-- past the end there is no lexeme
past_end : (xs : List ℕ) (i : ℕ) → length xs ≤ i → tokens_at xs i ≡ []
past_end xs i h = at_drop_all (lexed (i + 1) []) xs i h

pub skipped : (xs : List ℕ) (at : ℕ) (r : Option ℕ) → FirstFrom (λ b. not (is_space b)) xs at r → Skipped xs at r
skipped xs at (Some i) h = (h.1, not-true (is_space (get_or xs i 0)) h.2, skip_to xs at i h.0 (omega (arith, h.1)) (λ k a b. not-false (is_space (get_or xs k 0)) (h.3 k a b)))
skipped xs at None h =
    ⊎_elim (λ l. skip_to xs at (length xs) (omega arith) (omega arith) (λ k a b. not-false (is_space (get_or xs k 0)) (h k a b)) ∙ past_end xs (length xs) (omega arith)) (λ l. past_end xs at l)
    (cases_lt at (length xs))

between_none : (xs : List ℕ) (i : ℕ) → between i i xs ≡ []
between_none xs i = let q : i - i ≡ 0 = omega arith in ap (λ n. take n (drop i xs)) q

-- the run that begins at `at` ends at the first separator
run_within : (xs : List ℕ) (at n : ℕ) → at ≤ n → n ≤ length xs → ((k : ℕ) → at ≤ k → k < n → separates (get_or xs k 0) ≡ false)
    → tokens_at xs at ≡ lexed (n + 1) (between at n xs) (drop n xs)
run_within xs at n h l f =
    ap (λ w. lexed (at + 1) w (drop at xs)) (sym (between_none xs at))
    ∙ along (λ i. lexed (i + 1) (between at i xs) (drop i xs)) at n h
    (λ i p q. run_more xs (between at i xs) i (i + 1) (omega arith) (f i p q)
    ∙ ap (λ w. lexed (i + 1 + 1) w (drop (i + 1) xs)) (sym (between_more xs at i 0 p (omega arith))))

pub run_ends : (xs : List ℕ) (at : ℕ) (r : Option ℕ) → at ≤ length xs → FirstFrom separates xs at r → RunTo xs at (unwrap_or r (length xs))
run_ends xs at (Some i) l h = record {
  low = h.0;
  high = omega (arith, h.1);
  moves = λ _ f. moved xs at i h.0 h.2 f;
  same = run_within xs at i h.0 (omega (arith, h.1)) h.3 ∙ run_stop xs (between at i xs) i h.1 h.2;
}
run_ends xs at None l h = record {
  low = l;
  high = omega arith;
  moves = λ p _. p;
  same = run_within xs at (length xs) l (omega arith) h ∙ run_past xs (between at (length xs) xs) (length xs) (omega arith);
}

-- what the kind of a byte says of it

of_open : (b : ℕ) → Open ≡ kind_of b → b ≡ 40
of_open b e = grind (arith, nat_tests)

of_close : (b : ℕ) → Close ≡ kind_of b → b ≡ 41
of_close b e = grind (arith, nat_tests)

of_digit : (b : ℕ) → Digit ≡ kind_of b → is_digit b ≡ true
of_digit b e = grind (arith, nat_tests)

to_digit : (b : ℕ) → is_digit b ≡ true → kind_of b ≡ Digit
to_digit b e = grind (arith, nat_tests)

-- the first lexeme, by the kind of the byte with which it begins

pub token_open : (xs : List ℕ) (i : ℕ) → i < length xs → Open ≡ kind_of (get_or xs i 0) → tokens_at xs i ≡ (opening, i + 1) ∷ tokens_at xs (i + 1)
token_open xs i h e =
    let q = of_open (get_or xs i 0) e in
    at_drop_more (lexed (i + 1) []) xs i 0 h
    ∙ (cond-false _ _ _ (ne_eqb (get_or xs i 0) 32 (λ f. omega arith)) ∙ cond-true _ _ _ (eq-eqb (get_or xs i 0) 40 q))

pub token_close : (xs : List ℕ) (i : ℕ) → i < length xs → Close ≡ kind_of (get_or xs i 0) → tokens_at xs i ≡ (closing, i + 1) ∷ tokens_at xs (i + 1)
token_close xs i h e =
    let q = of_close (get_or xs i 0) e in
    at_drop_more (lexed (i + 1) []) xs i 0 h
    ∙ (cond-false _ _ _ (ne_eqb (get_or xs i 0) 32 (λ f. omega arith))
    ∙ (cond-false _ _ _ (ne_eqb (get_or xs i 0) 40 (λ f. omega arith)) ∙ cond-true _ _ _ (eq-eqb (get_or xs i 0) 41 q)))

-- a run that has a byte is one lexeme
one_run : (w : List ℕ) (k c : ℕ) (us ts : List (Lexeme × ℕ)) → 0 < length w → k - length w ≡ c → us ≡ ended k w ++ ts → us ≡ (run_of w, c) ∷ ts
one_run [] k c us ts h e q = absurd (omega arith)
one_run (b ∷ w) k c us ts h e q = q ∙ ap (λ i. (run_of (b ∷ w), i) ∷ ts) e

no_separator : (b : ℕ) → is_space b ≡ false → (b ≡ 40 → ⊥) → (b ≡ 41 → ⊥) → separates b ≡ false
no_separator b f g h = rw (f, ne_eqb b 40 g, ne_eqb b 41 h)

-- the run from i to r is one lexeme at column i + 1
token_run : (xs : List ℕ) (i r : ℕ) → RunTo xs i r → i < r → tokens_at xs i ≡ (run_of (between i r xs), i + 1) ∷ tokens_at xs r
token_run xs i r t m =
    let l : length (between i r xs) ≡ r - i = length-between xs i r t.high in
    one_run (between i r xs) (r + 1) (i + 1) (tokens_at xs i) (tokens_at xs r) (omega arith) (omega arith) t.same

first_between : (xs : List ℕ) (i r : ℕ) → i < r → get_or (between i r xs) 0 0 ≡ get_or xs i 0
first_between xs i r m = get_or-between xs i r 0 0 (omega arith) ∙ ap (λ k. get_or xs k 0) (add-zero i)

pub token_number : (xs : List ℕ) (i r : ℕ) → RunTo xs i r → i < length xs → Digit ≡ kind_of (get_or xs i 0)
    → tokens_at xs i ≡ (number (between i r xs), i + 1) ∷ tokens_at xs r
token_number xs i r t h e =
    let d = of_digit (get_or xs i 0) e in
    let ne : (n : ℕ) → is_digit n ≡ false → get_or xs i 0 ≡ n → ⊥ = λ n f q. both_ways (is_digit n) f (ap is_digit (sym q) ∙ d) in
    let m : i < r = t.moves h (no_separator (get_or xs i 0) (ne_eqb (get_or xs i 0) 32 (ne 32 refl)) (ne 40 refl) (ne 41 refl)) in
    token_run xs i r t m ∙ ap (λ u. (u, i + 1) ∷ tokens_at xs r) (cond-true _ _ _ (ap is_digit (first_between xs i r m) ∙ d))

pub token_word : (xs : List ℕ) (i r : ℕ) (k : Kind) → RunTo xs i r → i < length xs → is_space (get_or xs i 0) ≡ false → k ≡ kind_of (get_or xs i 0)
    → (k ≡ Open → ⊥) → (k ≡ Close → ⊥) → (k ≡ Digit → ⊥) → tokens_at xs i ≡ (word (between i r xs), i + 1) ∷ tokens_at xs r
token_word xs i r k t h s e o c d =
    let m : i < r = t.moves h (no_separator (get_or xs i 0) s (λ q. o (e ∙ ap kind_of q)) (λ q. c (e ∙ ap kind_of q))) in
    let n : is_digit (get_or xs i 0) ≡ false =
    ⊎_elim (λ q. absurd (d (e ∙ to_digit (get_or xs i 0) q))) (λ q. q) (cases_Bool (is_digit (get_or xs i 0))) in
    token_run xs i r t m ∙ ap (λ u. (u, i + 1) ∷ tokens_at xs r) (cond-false _ _ _ (ap is_digit (first_between xs i r m) ∙ n))

-- the first token, by the kind of the byte with which it begins
pub ruleset first_token = (token_open, token_close, token_number, token_word)
