-- What the digits of a word say, against what is written of a number.
use Rattle.std.proofs.Common.{◌≡◌, ℕ, ◌+◌, ◌-◌, ◌*◌, ◌/◌, ◌%◌, ◌^◌, ◌<◌, ◌≤◌, Bool, true, false, cond, leb, List, [], ◌∷◌, ◌++◌, length, get_or, Some, None, decimal, Option, sym, refl, ap, ◌∙◌, subst, ⊎_elim, arith, rules}
use Rattle.std.specs.Char.{is_ascii_digit}
use Rattle.std.specs.Option.{option_and_then}
use Rattle.std.specs.Str.{all_ascii_digits}
use Rattle.std.proofs.lemmas.Option.{none-some}
use Rattle.std.proofs.lemmas.Bool.{cond-true, cond-false, cases_lt, cases_Bool, and_parts, and_from, leb-true, leb-false, le-leb}
use Rattle.std.proofs.lemmas.Bool.Decides.{nat_tests}
use Rattle.std.proofs.lemmas.Slice.Eq.{bytes_eq-Decides}
use Rattle.std.proofs.lemmas.Str.Parse.{IsNumeralModel, numerals_by_fold}
use Rattle.std.proofs.lemmas.Fmt.{decimal_by_steps, decimal-digits_value, digits_value-decimal, first_decimal, decimal_nonempty, decimal_digit}
use Rattle.text.specs.Bytes.{is_digit}
use Rattle.text.specs.Numbers.{value_from, in_range, number_in, NumberIn, good_start, reading}

-- what the rest of the digits gives after one more
abbrev then : ℕ → List ℕ → Option ℕ → Option ℕ
then h bs o = elim o [ None ↦ None | Some m ↦ reading h m bs ]

-- digits against their value

own : IsNumeralModel (λ ds. all_ascii_digits ds ≡ true) (value_from 0)
unfolding value_from
own = numerals_by_fold _ (search rules) value_from (search rules)

-- both tests were passed
gate : (a b : Bool) (m : ℕ) (f : ℕ → Option ℕ) (v : ℕ)
    → ◌≡◌ {A = Option ℕ} (elim (cond a (cond b (Some m) None) None) [ None ↦ None | Some m ↦ f m ]) (Some v)
    → (a ≡ true) × (b ≡ true) × (f m ≡ Some v)
gate true true m f v e = (refl, refl, e)
gate true false m f v e = absurd (none-some v e)
gate false b m f v e = absurd (none-some v e)

digit_ascii : (c : ℕ) → is_digit c ≡ true → is_ascii_digit c ≡ true
digit_ascii c h = grind (arith, nat_tests)

-- what is read is made of digits, and is their value
reads_digits : (h n v : ℕ) (ds : List ℕ) → n ≤ h → reading h n ds ≡ Some v → (all_ascii_digits ds ≡ true) × (value_from n ds ≡ v) × (v ≤ h)
unfolding value_from
reads_digits h n v [] l e = let q : n ≡ v = cc in (refl, q, omega arith)
reads_digits h n v (c ∷ cs) l e =
    let g = gate (is_digit c) (leb (n * 10 + (c - 48)) h) (n * 10 + (c - 48)) (λ m. reading h m cs) v e in
    let r = reads_digits h (n * 10 + (c - 48)) v cs (leb-true _ _ g.1) g.2 in
    (rw (digit_ascii c g.0) r.0, r.1, r.2)

-- one digit at the end
reading_push : (h n m d : ℕ) (ds : List ℕ) → reading h n ds ≡ Some m → reading h n (ds ++ d ∷ []) ≡ reading h m (d ∷ [])
reading_push h n m d [] e = let q : n ≡ m = cc in ap (λ k. reading h k (d ∷ [])) q
reading_push h n m d (c ∷ cs) e =
    let g = gate (is_digit c) (leb (n * 10 + (c - 48)) h) (n * 10 + (c - 48)) (λ m. reading h m cs) m e in
    ap (then h (cs ++ d ∷ [])) (cond-true _ _ _ g.0 ∙ cond-true _ _ _ g.1) ∙ reading_push h (n * 10 + (c - 48)) m d cs g.2

-- a digit that is read
reads_one : (h n d : ℕ) → n * 10 + d ≤ h → d < 10 → reading h n ((48 + d) ∷ []) ≡ Some (n * 10 + d)
reads_one h n d l k =
    let a : is_digit (48 + d) ≡ true = grind (arith, nat_tests) in
    let q : 48 + d - 48 ≡ d = omega arith in
    ap (then h []) (cond-true _ _ _ a ∙ (cond-true _ _ _ (le-leb (n * 10 + (48 + d - 48)) h (omega arith)) ∙ ap (λ k. Some (n * 10 + k)) q))

-- what is written of a number is read back
reads_decimal : (h n : ℕ) → n ≤ h → h < 2 ^ 64 → reading h 0 (decimal n) ≡ Some n
reads_decimal h n l b =
    decimal_by_steps (λ m ds. m ≤ h → reading h 0 ds ≡ Some m)
    (λ m l k. reads_one h 0 m (omega arith) l ∙ ap Some (omega arith))
    (λ m ds l p k.
    reading_push h 0 (m / 10) (48 + m % 10) ds (p (omega arith))
    ∙ (reads_one h (m / 10) (m % 10) (omega arith) (omega arith) ∙ ap Some (omega arith))) n (omega arith) l

start_zero : (w : List ℕ) → good_start w ≡ true → get_or w 0 0 ≡ 48 → length w ≡ 1
start_zero w s z = grind (arith, nat_tests)

start_some : (w : List ℕ) → good_start w ≡ true → 0 < length w
start_some w s = grind (arith, nat_tests)

-- digits that are read, with a good start, are what is written of their value
is_number : (low h n : ℕ) (w : List ℕ) → h < 2 ^ 64 → Some n ≡ reading h 0 w → good_start w ≡ true → low ≤ n → NumberIn low h w (Some n)
is_number low h n w b e s l =
    let r = reads_digits h 0 n w (omega arith) (sym e) in
    let k : value_from 0 w < 2 ^ 64 = omega (arith, r.1, r.2) in
    (l, r.2, sym (decimal-digits_value own w r.0 (start_some w s) (start_zero w s) k) ∙ ap decimal r.1)

-- a word that is no number in the range

pub no_start : (low high : ℕ) (w : List ℕ) → high < 2 ^ 64 → good_start w ≡ false → NumberIn low high w None
no_start low high w b s n l k e =
    ⊎_elim
    (λ p. let f = first_decimal n p (omega arith) in
    let q = ap (λ u. get_or u 0 0) e in
    let c = ap length e in
    let d = decimal_nonempty n (omega arith) in
    grind (arith, nat_tests))
    (λ p. let q : n < 10 = omega arith in
    let f = decimal_digit n q in
    let c : length w ≡ 1 = ap length (e ∙ f) in
    grind (arith, nat_tests)) (cases_lt 0 n)

no_value : (low high : ℕ) (w : List ℕ) → high < 2 ^ 64 → None ≡ reading high 0 w → NumberIn low high w None
no_value low high w b s n l k e = none-some n (s ∙ (ap (reading high 0) e ∙ reads_decimal high n k b))

too_low : (low high m : ℕ) (w : List ℕ) → high < 2 ^ 64 → Some m ≡ reading high 0 w → m < low → NumberIn low high w None
too_low low high m w b s h n l k e =
    let q : Some m ≡ Some n = s ∙ (ap (reading high 0) e ∙ reads_decimal high n k b) in
    let z : m ≡ n = cc in omega arith

-- of what is read, the number that is at least low
pub kept : (low high : ℕ) (w : List ℕ) → high < 2 ^ 64 → (o r : Option ℕ) → o ≡ reading high 0 w → good_start w ≡ true
    → r ≡ option_and_then (λ n. cond (leb low n) (Some n) None) o → NumberIn low high w r
kept low high w b None r e s q = subst (NumberIn low high w) (sym q) (no_value low high w b e)
kept low high w b (Some n) r e s q =
    subst (NumberIn low high w) (sym q)
    ((elim (leb low n) as (λ t. leb low n ≡ t → NumberIn low high w (cond t (Some n) None))
    [ true ↦ λ t. is_number low high n w b e s (leb-true low n t) | false ↦ λ t. too_low low high n w b e (leb-false low n t) ]) refl)

-- the number by its definition

in_range_lem : (low high n : ℕ) (w : List ℕ) → high < 2 ^ 64 → NumberIn low high w (Some n) → (in_range low high w ≡ true) × (value_from 0 w ≡ n)
unfolding in_range
in_range_lem low high n w h p =
    let v : value_from 0 w ≡ n = ap (value_from 0) p.2 ∙ digits_value-decimal own n (omega (arith, p.1)) in (
      and_from _ _ ((bytes_eq-Decides w (decimal (value_from 0 w))).1 (p.2 ∙ ap decimal (sym v)))
          (and_from _ _ (le-leb low (value_from 0 w) (omega (arith, p.0))) (le-leb (value_from 0 w) high (omega (arith, p.1)))),
      v,
    )

not_in : (low high : ℕ) (w : List ℕ) → NumberIn low high w None → in_range low high w ≡ false
unfolding in_range
not_in low high w f =
    ⊎_elim
    (λ t. let a = and_parts _ _ t in let b = and_parts _ _ a.1 in
    absurd (f (value_from 0 w) (leb-true _ _ b.0) (leb-true _ _ b.1) ((bytes_eq-Decides w (decimal (value_from 0 w))).0 a.0)))
    (λ t. t) (cases_Bool (in_range low high w))

pub number_is : (low high : ℕ) (w : List ℕ) (r : Option ℕ) → high < 2 ^ 64 → NumberIn low high w r → r ≡ number_in low high w
unfolding number_in
number_is low high w (Some n) h p =
    let q = in_range_lem low high n w h p in sym (cond-true _ _ _ q.0 ∙ ap Some q.1)
number_is low high w None h p = sym (cond-false _ _ _ (not_in low high w p))

-- the value of a decimal
pub value_of : (n : ℕ) → n < 2 ^ 64 → value_from 0 (decimal n) ≡ n
value_of n h = digits_value-decimal own n h
