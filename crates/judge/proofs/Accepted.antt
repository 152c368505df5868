-- A line is found without fault just if it is acceptable.
use Rattle.std.proofs.Common.{◌≡◌, ℕ, ◌+◌, ◌-◌, ◌<◌, ◌≤◌, true, false, cond, not, ltb, List, [], ◌∷◌, length, get_or, is_some, Some, None, Option, sym, refl, ap, ◌∙◌, inl, inr, ⊎_elim, arith}
use Rattle.std.proofs.lemmas.Option.{none-some}
use Rattle.std.proofs.lemmas.Bool.{ltb-false, le-ltb, cond-false, cases_Bool, not-false, both_ways}
use Rattle.text.proofs.Blank.{blank_decides}
use Rattle.text.proofs.Found.{first_found}
use Rattle.text.specs.Bytes.{allowed}
use Rattle.text.specs.Findings.{or_else, line_limit, too_long, not_allowed, is_fault, First, unbalanced}
use Rattle.text.specs.Lines.{is_blank}
use Rattle.text.specs.Tokens.{Lexeme, tokens_of}
use Rattle.text.specs.Words.{good_name}
use Rattle.text.specs.declared.placed.Placed.{Placed}
use Rattle.grammar.proofs.Accepts.{then, Found, found as stopped, whole, runs_form}
use Rattle.grammar.proofs.Ordered.{tells}
use Rattle.grammar.specs.Forms.{Form, spell, spell_form, plain}
use Rattle.grammar.specs.Orders.{good_numbers, good_names}
use Rattle.grammar.specs.Wants.{Want, form, step, run, first_at, misplaced, bad_number, bad_name, inside}
use Rattle.grammar.specs.declared.state.FileKind.{FileKind}
use Rattle.judge.specs.Judged.{found, judged, Sound, Acceptable}
use Rattle.judge.specs.declared.faults.Fault.{Fault}
use Rattle.judge.specs.declared.faults.Fault.TheVariants.{LineTooLong, ByteNotAllowed, Brackets, Misplaced, BadNumber, BadName}
use Rattle.judge.proofs.Balanced.{balanced, brackets, bal_form}
use Rattle.judge.proofs.Levels.{nothing_left}

-- six findings, the first of which counts
abbrev first_of : ℕ → Option ℕ → Option ℕ → Option ℕ → Option ℕ → Option ℕ → Option ℕ → Option (Placed Fault)
first_of n a b c d e f =
    or_else (found LineTooLong n a) (or_else (found ByteNotAllowed n b) (or_else (found Brackets n c)
    (or_else (found Misplaced n d) (or_else (found BadNumber n e) (found BadName n f)))))

-- no finding
pub record NoneOf (a b c d e f : Option ℕ) : Type 0 where
  pub long : a ≡ None
  pub byte : b ≡ None
  pub bracket : c ≡ None
  pub place : d ≡ None
  pub figure : e ≡ None
  pub naming : f ≡ None

all_none : (n : ℕ) (a b c d e f : Option ℕ) → first_of n a b c d e f ≡ None → NoneOf a b c d e f
all_none n (Some x) b c d e f q = absurd (none-some _ (sym q))
all_none n None (Some x) c d e f q = absurd (none-some _ (sym q))
all_none n None None (Some x) d e f q = absurd (none-some _ (sym q))
all_none n None None None (Some x) e f q = absurd (none-some _ (sym q))
all_none n None None None None (Some x) f q = absurd (none-some _ (sym q))
all_none n None None None None None (Some x) q = absurd (none-some _ (sym q))
all_none n None None None None None None q = record { long = refl; byte = refl; bracket = refl; place = refl; figure = refl; naming = refl }

none_all : (n : ℕ) (a b c d e f : Option ℕ) → NoneOf a b c d e f → first_of n a b c d e f ≡ None
none_all n (Some x) b c d e f h = absurd (none-some x (sym h.long))
none_all n None (Some x) c d e f h = absurd (none-some x (sym h.byte))
none_all n None None (Some x) d e f h = absurd (none-some x (sym h.bracket))
none_all n None None None (Some x) e f h = absurd (none-some x (sym h.place))
none_all n None None None None (Some x) f h = absurd (none-some x (sym h.figure))
none_all n None None None None None (Some x) h = absurd (none-some x (sym h.naming))
none_all n None None None None None None h = refl

none_from : (o : Option ℕ) → is_some o ≡ false → o ≡ None
none_from (Some x) e = absurd (both_ways true e refl)
none_from None e = refl

-- each finding in plain words

short : (l : List ℕ) → too_long l ≡ None → length l ≤ line_limit
short l e =
    (elim (ltb line_limit (length l)) as (λ t. ltb line_limit (length l) ≡ t → cond t (Some (line_limit + 1)) None ≡ None → length l ≤ line_limit)
    [ true ↦ λ q e. absurd (none-some _ (sym e)) | false ↦ λ q e. ltb-false line_limit (length l) q ]) refl e

not_long : (l : List ℕ) → length l ≤ line_limit → too_long l ≡ None
not_long l h = cond-false _ _ _ (le-ltb line_limit (length l) h)

clean : (l : List ℕ) → not_allowed l ≡ None → (i : ℕ) → i < length l → allowed (get_or l i 0) ≡ true
clean l e i h = not-false (allowed (get_or l i 0)) (first_found is_fault l None (sym e) i h)

no_fault : (l : List ℕ) (r : Option ℕ) → First is_fault l r → ((i : ℕ) → i < length l → allowed (get_or l i 0) ≡ true) → r ≡ None
no_fault l None f h = refl
no_fault l (Some c) f h =
    absurd (both_ways (not (allowed (get_or l (c - 1) 0))) (ap not (h (c - 1) (omega (arith, f.0, f.1)))) f.2)

all_fit : (ps : List (Lexeme × ℕ)) (xs ys : List Want) → run xs (plain ps) ≡ Some ys → first_at misplaced xs ps ≡ None
all_fit [] xs ys e = refl
all_fit (p ∷ ps) xs ys e =
    (elim (step xs p.0) as (λ o. then o (plain ps) ≡ Some ys
    → cond (not (is_some o)) (Some p.1) (elim o [ None ↦ None | Some zs ↦ first_at misplaced zs ps ]) ≡ None)
    [ None ↦ λ e. absurd (none-some ys e) | Some zs ↦ λ e. all_fit ps zs ys e ]) e

stop_none : (xs : List Want) (ps : List (Lexeme × ℕ)) (r : Option ℕ) → Found xs ps r → r ≡ None → (ys : List Want) × (run xs (plain ps) ≡ Some ys)
stop_none xs ps (Some c) f e = absurd (none-some c (sym e))
stop_none xs ps None f e = f

plain_none : (ps : List (Lexeme × ℕ)) → plain ps ≡ [] → ps ≡ []
plain_none [] e = refl
plain_none (p ∷ ps) e = absurd (omega (arith, ap length e))

module _ (k : FileKind) (l : List ℕ) where
  abbrev ps : List (Lexeme × ℕ)
  ps = tokens_of l

  abbrev NoneHere : Type 0
  NoneHere =
      NoneOf (too_long l) (not_allowed l) (unbalanced l) (first_at misplaced (form k ∷ []) ps) (first_at bad_number (form k ∷ []) ps) (first_at bad_name (form k ∷ []) ps)

  -- a line with a token and without fault is a form
  sound : NoneHere → is_blank l ≡ false → Sound k l
  sound h n =
      let some : plain ps ≡ [] → ⊥ = λ e. both_ways (is_blank l) n ((blank_decides l (is_blank l) refl).1 (plain_none ps e)) in
      let b : balanced 0 (plain ps) ≡ true = not-false (balanced 0 (plain ps)) (sym (ap is_some (sym h.bracket) ∙ brackets l)) in
      let s = stop_none (form k ∷ []) ps (first_at misplaced (form k ∷ []) ps) (stopped ps (form k ∷ [])) h.place in
      let w = whole (plain ps) (form k ∷ []) (s.1 ∙ ap Some (nothing_left k (plain ps) s.0 some b s.1)) in
      let f : Form = w.1.0 in
      let e : plain ps ≡ spell f = w.1.2 ∙ ap (spell_form f) w.2 in (
        f,
        w.1.1,
        e,
        not-false (good_numbers f) (sym (ap is_some (sym h.figure) ∙ tells inside (λ n w. true) k ps _ refl f w.1.1 e)),
        not-false (good_names f) (sym (ap is_some (sym h.naming) ∙ tells (λ r w. true) (λ n w. good_name w) k ps _ refl f w.1.1 e)),
      )

  -- a blank line has no fault by its tokens
  blank_none : length l ≤ line_limit → ((i : ℕ) → i < length l → allowed (get_or l i 0) ≡ true) → is_blank l ≡ true → NoneHere
  blank_none h a b =
      let e : ps ≡ [] = (blank_decides l (is_blank l) refl).0 b in
      record {
        long = not_long l h;
        byte = no_fault l (not_allowed l) (first_found is_fault l (not_allowed l) refl) a;
        bracket = none_from (unbalanced l) (brackets l ∙ ap (λ us. not (balanced 0 (plain us))) e);
        place = ap (first_at misplaced (form k ∷ [])) e;
        figure = ap (first_at bad_number (form k ∷ [])) e;
        naming = ap (first_at bad_name (form k ∷ [])) e;
      }

  sound_none : length l ≤ line_limit → ((i : ℕ) → i < length l → allowed (get_or l i 0) ≡ true) → Sound k l → NoneHere
  sound_none h a s =
      let f : Form = s.0 in
      let e : plain ps ≡ spell f = s.2 in
      record {
        long = not_long l h;
        byte = no_fault l (not_allowed l) (first_found is_fault l (not_allowed l) refl) a;
        bracket = none_from (unbalanced l) (brackets l ∙ ap not (ap (balanced 0) e ∙ bal_form f));
        place = all_fit ps (form k ∷ []) [] (ap (run (form k ∷ [])) e ∙ runs_form k f [] [] s.1);
        figure = none_from _ (tells inside (λ n w. true) k ps _ refl f s.1 e ∙ ap not s.3);
        naming = none_from _ (tells (λ r w. true) (λ n w. good_name w) k ps _ refl f s.1 e ∙ ap not s.4);
      }

  pub accepts : (n : ℕ) (r : Option (Placed Fault)) → r ≡ judged k n l → (r ≡ None → Acceptable k l) × (Acceptable k l → r ≡ None)
  accepts n r e = (
    λ q. let h : NoneHere = all_none n _ _ _ _ _ _ (sym e ∙ q) in
        (short l h.long, clean l h.byte, ⊎_elim (λ b. inl b) (λ b. inr (sound h b)) (cases_Bool (is_blank l))),
    λ a. e ∙ none_all n _ _ _ _ _ _ (⊎_elim (λ b. blank_none a.0 a.1 b) (λ s. sound_none a.0 a.1 s) a.2),
  )
