-- A file has no fault just if its lines are in order.
use Rattle.std.proofs.Common.{◌≡◌, ℕ, ◌+◌, Bool, true, false, cond, List, [], ◌∷◌, Some, None, Option, sym, refl, ap, ◌∙◌, inl, inr, ⊎_elim}
use Rattle.std.proofs.lemmas.Option.{none-some}
use Rattle.text.specs.Findings.{or_else}
use Rattle.text.specs.Lines.{is_blank}
use Rattle.text.specs.declared.placed.Placed.{Placed}
use Rattle.grammar.specs.Forms.{Form}
use Rattle.grammar.specs.declared.state.FileKind.{FileKind}
use Rattle.judge.proofs.Accepted.{accepts}
use Rattle.judge.specs.Files.{whole_file, verdict_from, Spells, Clean, InOrder}
use Rattle.judge.specs.Judged.{found, judged, Acceptable}
use Rattle.judge.specs.declared.faults.Fault.{Fault}

pub first_none : {X : Type 0} (a b : Option X) → or_else a b ≡ None → (a ≡ None) × (b ≡ None)
first_none (Some x) b e = absurd (none-some x (sym e))
first_none None b e = (refl, e)

pub both_none : {X : Type 0} (a b : Option X) → a ≡ None → b ≡ None → or_else a b ≡ None
both_none a b p q = ap (λ o. or_else o b) p ∙ q

pub found_none : (f : Fault) (n : ℕ) (o : Option ℕ) → found f n o ≡ None → o ≡ None
found_none f n (Some c) e = absurd (none-some _ (sym e))
found_none f n None e = refl

-- a file that is not refused as a whole
pub whole_none : (a : Bool) (f : Fault) (y : Option (Placed Fault)) → cond a (whole_file f) y ≡ None → (a ≡ false) × (y ≡ None)
whole_none true f y e = absurd (none-some _ (sym e))
whole_none false f y e = (refl, e)

-- the judgement of a line after others begins with that of the line by itself, and then looks at its form
pub record Judges {S : Type 0} (k : FileKind) (judge : S → ℕ → List ℕ → Option (Placed Fault)) (after : S → List ℕ → S) (Good : S → Form → Type 0) (added : S → Form → S) : Type 0 where
  pub alone : (s : S) (n : ℕ) (l : List ℕ) → judge s n l ≡ None → judged k n l ≡ None
  pub blank : (s : S) (n : ℕ) (l : List ℕ) → judged k n l ≡ None → is_blank l ≡ true → judge s n l ≡ None
  pub skipped : (s : S) (l : List ℕ) → is_blank l ≡ true → after s l ≡ s
  pub grown : (s : S) (l : List ℕ) (f : Form) → Spells k l f → after s l ≡ added s f
  pub good : (s : S) (n : ℕ) (l : List ℕ) (f : Form) → Spells k l f → judge s n l ≡ None → Good s f
  pub passes : (s : S) (n : ℕ) (l : List ℕ) (f : Form) → judged k n l ≡ None → Spells k l f → Good s f → judge s n l ≡ None

module _ {S : Type 0} (k : FileKind) (judge : S → ℕ → List ℕ → Option (Placed Fault)) (after : S → List ℕ → S) (Good : S → Form → Type 0) (added : S → Form → S)
    (j : Judges k judge after Good added) where
  abbrev rest : S → ℕ → List (List ℕ) → Option (Placed Fault)
  rest = verdict_from judge after

  abbrev Orderly : S → List (List ℕ) → Type 0
  Orderly = InOrder k Good added

  pub in_order : (ls : List (List ℕ)) (s : S) (n : ℕ) → rest s n ls ≡ None → Orderly s ls
  in_order [] s n e = tt
  in_order (l ∷ ls) s n e =
      let h = first_none (judge s n l) (rest (after s l) (n + 1) ls) e in
      let a : Acceptable k l = (accepts k l n (judged k n l) refl).0 (j.alone s n l h.0) in (
        record { short = a.0; bytes = a.1 },
        ⊎_elim
            (λ b. inl (b, in_order ls s (n + 1) (ap (λ t. rest t (n + 1) ls) (sym (j.skipped s l b)) ∙ h.1)))
            (λ f. let sp : Spells k l f.0 = record { fits = f.1; spelled = f.2; numbers = f.3; names = f.4 } in
            inr (f.0, sp, j.good s n l f.0 sp h.0, in_order ls (added s f.0) (n + 1) (ap (λ t. rest t (n + 1) ls) (sym (j.grown s l f.0 sp)) ∙ h.1)))
            a.2,
      )

  pub no_verdict : (ls : List (List ℕ)) (s : S) (n : ℕ) → Orderly s ls → rest s n ls ≡ None
  no_verdict [] s n o = refl
  no_verdict (l ∷ ls) s n o =
      let c : Clean l = o.0 in
      ⊎_elim
      (λ b. let a : judged k n l ≡ None = (accepts k l n (judged k n l) refl).1 (c.short, c.bytes, inl b.0) in
      both_none _ _ (j.blank s n l a b.0) (ap (λ t. rest t (n + 1) ls) (j.skipped s l b.0) ∙ no_verdict ls s (n + 1) b.1))
      (λ g. let sp : Spells k l g.0 = g.1 in
      let a : judged k n l ≡ None = (accepts k l n (judged k n l) refl).1 (c.short, c.bytes, inr (g.0, sp.fits, sp.spelled, sp.numbers, sp.names)) in
      both_none _ _ (j.passes s n l g.0 a sp g.2) (ap (λ t. rest t (n + 1) ls) (j.grown s l g.0 sp) ∙ no_verdict ls (added s g.0) (n + 1) g.3))
      o.1
