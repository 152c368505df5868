-- Guards one after the other.
use Rattle.std.proofs.Common.{◌≡◌, ℕ, ◌-◌, ◌<◌, true, false, cond, List, [], ◌∷◌, ◌++◌, map, length, is_some, Some, None, codes, decimal, Option, unwrap_or, sym, refl, ap, ◌∙◌, arith}
use Rattle.std.proofs.lemmas.List.{length-append, map-append}
use Rattle.std.proofs.lemmas.Bool.{lt-ltb}
use Rattle.geometry.specs.Limits.{site}
use Rattle.geometry.specs.declared.axis.Axis.{Axis}
use Rattle.geometry.specs.declared.axis.Axis.TheVariants.{X, Y, Z}
use Rattle.book.specs.declared.guard.Guard.{Guard}
use Rattle.text.specs.Takes.{open_at, word_at}
use Rattle.text.specs.Tokens.{Lexeme, opening, closing, number, word, tokens_left}
use Rattle.text.specs.declared.tokens.Tokens.{Tokens}
use Rattle.grammar.specs.Forms.{Guard as GuardForm, guard, spell_guards, guard_limit, axis_text, plain}
use Rattle.grammar.specs.Wants.{Want, num, axis, range, shut, items, item, low_of, onto, inside}
use Rattle.forms.specs.Clean.{clean, Dead}
use Rattle.forms.specs.Fronts.{GuardTo, ItemTo, GuardsIn}
use Rattle.forms.specs.Met.{met, is_named}
use Rattle.forms.specs.Taken.{decimal_at, axis_at}
use Rattle.forms.specs.Told.{guard_of, axis_of}
use Rattle.forms.specs.declared.words.Item.TheVariants.{Guard as GuardItem}
use Rattle.forms.proofs.Cleaned.{guard_wants, axis_clean, when_clean, guard_clean}
use Rattle.forms.proofs.Leaves.{Other, lent}

-- a guard without a LOW

no_range : (us : List (Lexeme × ℕ)) → Dead (num 1 site) us → Dead range us
no_range [] h k xs = refl
no_range ((opening, c) ∷ us) h k xs = refl
no_range ((closing, c) ∷ us) h k xs = refl
no_range ((number w, c) ∷ us) h k xs = h k (num (low_of w) site ∷ xs)
no_range ((word w, c) ∷ us) h k xs = refl

pub no_low : (a : Axis) (c : ℕ) (us vs : List (Lexeme × ℕ)) → us ≡ (axis_at a, c) ∷ vs → Dead (num 1 site) vs
    → (k : ℕ) (xs : List Want) → clean k (axis ∷ range ∷ shut ∷ xs) (plain us) ≡ false
no_low a c us vs e h k xs =
    ap (λ u. clean k (axis ∷ range ∷ shut ∷ xs) (plain u)) e ∙ (axis_clean (axis_of a) k (plain vs) (range ∷ shut ∷ xs) ∙ no_range vs h k (shut ∷ xs))

-- neither a guard nor a body

pub no_item : (n : ℕ) (us : List (Lexeme × ℕ)) → Other open_at us → Dead (items n) us
no_item n [] h k xs = refl
no_item n ((opening, c) ∷ us) h k xs = absurd (h tt c us refl)
no_item n ((closing, c) ∷ us) h k xs = refl
no_item n ((number w, c) ∷ us) h k xs = refl
no_item n ((word w, c) ∷ us) h k xs = refl

no_head : (n : ℕ) (us : List (Lexeme × ℕ)) → Other word_at us → Dead (item n) us
no_head n [] h k xs = refl
no_head n ((opening, c) ∷ us) h k xs = refl
no_head n ((closing, c) ∷ us) h k xs = refl
no_head n ((number w, c) ∷ us) h k xs = refl
no_head n ((word w, c) ∷ us) h k xs = absurd (h (lent w) c us refl)

pub no_item_word : (n c : ℕ) (us vs : List (Lexeme × ℕ)) → us ≡ (opening, c) ∷ vs → Other word_at vs → Dead (items n) us
no_item_word n c us vs e h k xs = ap (λ u. clean k (items n ∷ xs) (plain u)) e ∙ no_head n vs h k xs

-- the word of a guard

-- what is met after a word that wants o before xs
abbrev met_by : Option (List Want) → List Want → List (Lexeme × ℕ) → List (Lexeme × ℕ)
met_by o xs us = elim (onto o xs) [ None ↦ [] | Some ys ↦ met is_named ys us ]

when_named : (n a b : ℕ) (us : List (Lexeme × ℕ)) (xs : List Want) → 0 < n
    → met is_named (items n ∷ xs) ((opening, a) ∷ (word (codes "when"), b) ∷ us) ≡ met is_named (axis ∷ range ∷ shut ∷ items (n - 1) ∷ xs) us
when_named n a b us xs h = ap (λ t. met_by (cond t (Some (guard_wants n)) None) xs us) (lt-ltb 0 n h)

guard_named : (a : Axis) (l h b c d e : ℕ) (us : List (Lexeme × ℕ)) (xs : List Want)
    → met is_named (axis ∷ range ∷ shut ∷ xs) ((axis_at a, b) ∷ (decimal_at l, c) ∷ (decimal_at h, d) ∷ (closing, e) ∷ us) ≡ met is_named xs us
guard_named X l h b c d e us xs = refl
guard_named Y l h b c d e us xs = refl
guard_named Z l h b c d e us xs = refl

guard_passed : (s t : Tokens) (g : Guard) (k : ℕ) (xs : List Want) → GuardTo s t g
    → clean k (axis ∷ range ∷ shut ∷ xs) (plain (tokens_left s)) ≡ clean k xs (plain (tokens_left t))
guard_passed s t g k xs p =
    let low : inside (1, site) (decimal g.low.0) ≡ true = ap is_some p.low in
    let high : inside (low_of (decimal g.low.0), site) (decimal g.high.0) ≡ true =
    ap (λ (o : Option ℕ). inside (unwrap_or o 1, site) (decimal g.high.0)) p.low ∙ ap is_some p.high in
    ap (λ v. clean k (axis ∷ range ∷ shut ∷ xs) (plain v)) p.is
    ∙ guard_clean (axis_of g.axis) (decimal g.low.0) (decimal g.high.0) k (plain (tokens_left t)) xs low high

spell_push : (gs : List GuardForm) (g : GuardForm) (us : List Lexeme) → spell_guards gs (spell_guards (g ∷ []) us) ≡ spell_guards (gs ++ g ∷ []) us
spell_push [] g us = refl
spell_push (guard a l h ∷ gs) g us =
    ap (λ v. opening ∷ word (codes "when") ∷ word (axis_text a) ∷ number l ∷ number h ∷ closing ∷ v) (spell_push gs g us)

-- one guard more
pub guards_more : (s t u v : Tokens) (gs : List Guard) (g : Guard) → length gs < guard_limit
    → GuardsIn s t gs → ItemTo t u GuardItem → GuardTo u v g → GuardsIn s v (gs ++ g ∷ [])
guards_more s t u v gs g l p q r =
    let n : ℕ = length gs in
    let some : 0 < guard_limit - n = omega arith in
    let less : guard_limit - n - 1 ≡ guard_limit - length (gs ++ g ∷ []) = simp length-append (omega arith) in
    record {
      spelled =
          p.spelled ∙ (ap (λ w. spell_guards (map guard_of gs) (plain w)) q.is
          ∙ (ap (λ w. spell_guards (map guard_of gs) (opening ∷ word (codes "when") ∷ plain w)) r.is
          ∙ (spell_push (map guard_of gs) (guard_of g) (plain (tokens_left v))
          ∙ ap (λ w. spell_guards w (plain (tokens_left v))) (sym (map-append guard_of gs (g ∷ []))))));
      named = λ xs.
          p.named xs ∙ (ap (met is_named (items (guard_limit - n) ∷ xs)) q.is
          ∙ (when_named (guard_limit - n) q.outer q.inner (tokens_left u) xs some
          ∙ (ap (met is_named (axis ∷ range ∷ shut ∷ items (guard_limit - n - 1) ∷ xs)) r.is
          ∙ (guard_named g.axis g.low.0 g.high.0 r.first r.second r.third r.end (tokens_left v) (items (guard_limit - n - 1) ∷ xs)
          ∙ ap (λ m. met is_named (items m ∷ xs) (tokens_left v)) less))));
      passed = λ k xs.
          p.passed k xs ∙ (ap (λ w. clean k (items (guard_limit - n) ∷ xs) (plain w)) q.is
          ∙ (when_clean (guard_limit - n) k (plain (tokens_left u)) xs some
          ∙ (guard_passed u v g k (items (guard_limit - n - 1) ∷ xs) r
          ∙ ap (λ m. clean k (items m ∷ xs) (plain (tokens_left v))) less)));
      few = simp length-append (omega arith);
      kept = r.kept ∙ (q.kept ∙ p.kept);
    }
