-- Parts one after the other.
use Rattle.std.proofs.Common.{◌≡◌, ℕ, ◌+◌, ◌-◌, ◌<◌, ◌≤◌, true, false, ◌&&◌, List, [], ◌∷◌, ◌++◌, map, length, is_some, Some, None, decimal, Option, Ok, Err, Result, sym, refl, ap, ◌∙◌, subst, append_assoc, arith, length-append}
use Rattle.std.proofs.lemmas.List.{map-append}
use Rattle.rows.specs.Parts.{Pushed}
use Rattle.rows.specs.Rows.{parts_of}
use Rattle.rows.specs.Sizes.{amount, lowest, highest}
use Rattle.rows.specs.declared.part.Part.{Part}
use Rattle.rows.specs.declared.parts.Parts.{Parts}
use Rattle.rows.specs.declared.size.Size.{Size}
use Rattle.rows.specs.declared.size.Size.TheVariants.{Fix, Float}
use Rattle.bounded.specs.Held.{Pushed as Held}
use Rattle.bounded.specs.declared.full.Full.{Full}
use Rattle.std.specs.Result.{result_ok}
use Rattle.text.specs.Numbers.{number_in}
use Rattle.text.specs.Tokens.{Lexeme, opening, closing, number, word, tokens_left}
use Rattle.text.specs.declared.placed.Placed.{Placed}
use Rattle.text.specs.declared.tokens.Tokens.{Tokens}
use Rattle.grammar.specs.Forms.{Part as PartForm, spell_part, spell_parts, plain}
use Rattle.grammar.specs.Orders.{ordered_part}
use Rattle.grammar.specs.Wants.{Want, more, part, inside}
use Rattle.forms.specs.Clean.{clean, Dead}
use Rattle.forms.specs.Met.{met, is_named}
use Rattle.forms.specs.Pieces.{kind_at, kind_for, PartTo}
use Rattle.forms.specs.Reads.{InLine, use_room}
use Rattle.forms.specs.Splits.{bracket_at, Added, AddedPart, Grew, PartsPast, PartsIn, PartsTo, TookParts}
use Rattle.forms.specs.Taken.{Took, decimal_at}
use Rattle.forms.specs.Told.{Name, bytes_of, placed_word, sized_as, part_forms}
use Rattle.forms.specs.declared.part.PartLine.{PartLine}
use Rattle.forms.specs.declared.words.Bracket.{Bracket}
use Rattle.forms.specs.declared.words.Bracket.TheVariants.{Open, Close}
use Rattle.forms.proofs.Cleaned.{any, part_clean}

-- a part that is in range, and its name, were added
pub added : (l : PartLine) (ps qs : Parts) (us vs : List Name) (p : Part) (x : Result Unit Full) (u : Unit {0}) → p.size ≡ l.size → Pushed ps p qs x
    → Some u ≡ result_ok x → (r : Result Unit Full) → Held use_room us l.name vs r → AddedPart l ps qs us vs (result_ok r)
added l ps qs us vs p (Ok w) u e h o (Ok v) d = record { new = p; same = e; parts = h.1; names = d.1 }
added l ps qs us vs p (Ok w) u e h o (Err f) d = (d.1, λ a b c f. omega (arith, d.0))
added l ps qs us vs p (Err f) u e h o r d = absurd (let q : Some u ≡ None = o in cc)

-- there was no room for the part
pub not_pushed : (l : PartLine) (ps qs : Parts) (us : List Name) (p : Part) (x : Result Unit Full) → Pushed ps p qs x → None ≡ result_ok x
    → AddedPart l ps qs us us None
not_pushed l ps qs us p (Ok w) h o = absurd (let q : None ≡ Some w = o in cc)
not_pushed l ps qs us p (Err f) h o = (refl, λ a b c d. omega (arith, h.0))

-- one part

good_part : (z : Size) (w : List ℕ) → number_in (lowest z) (highest z) (decimal (amount z)) ≡ Some (amount z) → ordered_part inside any (sized_as z w) ≡ true
good_part (Fix m) w e = ap (λ (o : Option ℕ). is_some o && true) e
good_part (Float m) w e = ap (λ (o : Option ℕ). is_some o && true) e

part_named_lem : (z : Size) (n : Name) (a b c : ℕ) (us : List (Lexeme × ℕ)) (xs : List Want)
    → met is_named (part ∷ xs) ((kind_at (kind_for z), a) ∷ (decimal_at (amount z), b) ∷ placed_word n ∷ (closing, c) ∷ us) ≡ placed_word n ∷ met is_named xs us
part_named_lem (Fix m) n a b c us xs = refl
part_named_lem (Float m) n a b c us xs = refl

part_spelled : (z : Size) (w : List ℕ) (us : List Lexeme)
    → opening ∷ kind_at (kind_for z) ∷ decimal_at (amount z) ∷ word w ∷ closing ∷ us ≡ spell_part (sized_as z w) us
part_spelled (Fix m) w us = refl
part_spelled (Float m) w us = refl

-- one more at the end

spell_push : (ps : List PartForm) (p : PartForm) (us : List Lexeme) → spell_parts ps (spell_part p us) ≡ spell_parts (ps ++ p ∷ []) us
spell_push [] p us = refl
spell_push (q ∷ ps) p us = ap (spell_part q) (spell_push ps p us)

forms_push : (ps : List Part) (ns : List Name) (p : Part) (n : Name) → length ps ≡ length ns
    → part_forms (ps ++ p ∷ []) (ns ++ n ∷ []) ≡ part_forms ps ns ++ sized_as p.size (bytes_of n) ∷ []
forms_push [] [] p n e = refl
forms_push [] (m ∷ ns) p n e = absurd (omega arith)
forms_push (q ∷ ps) [] p n e = absurd (omega arith)
forms_push (q ∷ ps) (m ∷ ns) p n e = ap (λ v. sized_as q.size (bytes_of m) ∷ v) (forms_push ps ns p n (omega arith))

pub placed_push : (k : ℕ) (ns : List Name) (n : Name) → InLine k ns → n.line ≡ k → InLine k (ns ++ n ∷ [])
placed_push k [] n h e = (e, tt)
placed_push k (m ∷ ns) n h e = (h.0, placed_push k ns n h.1 e)

-- a part more was read
pub part_past : (room c : ℕ) (before mid after : List Name) (s t u : Tokens) (ps qs : Parts) (l : PartLine)
    → PartsPast room before mid s ((opening, c) ∷ tokens_left t) ps → t.line ≡ s.line → length (parts_of ps) < room → PartTo t u l → Added l ps qs mid after
    → PartsPast room before after s (tokens_left u) qs
part_past room c before mid after s t u ps qs l p k h r d =
    let z = l.size in
    let n = l.name in
    let count : length (parts_of qs) ≡ length (parts_of ps) + 1 = ap length d.parts ∙ length-append (parts_of ps) (d.new ∷ []) in
    let less : room - length (parts_of ps) - 1 ≡ room - length (parts_of qs) = omega (arith, count) in
    let some : 0 < room - length (parts_of ps) = omega arith in
    let same : length (parts_of ps) ≡ length p.used = sym p.counted in
    let spells : opening ∷ plain (tokens_left t) ≡ spell_part (sized_as z (bytes_of n)) (plain (tokens_left u)) =
    ap (λ v. opening ∷ plain v) r.is ∙ part_spelled z (bytes_of n) (plain (tokens_left u)) in
    record {
      used = p.used ++ n ∷ [];
      grown = d.names ∙ (ap (λ v. v ++ n ∷ []) p.grown ∙ append_assoc before p.used (n ∷ []));
      counted = length-append p.used (n ∷ []) ∙ (ap (λ v. v + 1) p.counted ∙ sym count);
      fits = omega (arith, count);
      spelled =
          p.spelled ∙ (ap (spell_parts (part_forms (parts_of ps) p.used)) spells
          ∙ (spell_push (part_forms (parts_of ps) p.used) (sized_as z (bytes_of n)) (plain (tokens_left u))
          ∙ (ap (λ (v : Size). spell_parts (part_forms (parts_of ps) p.used ++ sized_as v (bytes_of n) ∷ []) (plain (tokens_left u))) (sym d.same)
          ∙ ap (λ v. spell_parts v (plain (tokens_left u)))
          (sym (ap (λ v. part_forms v (p.used ++ n ∷ [])) d.parts ∙ forms_push (parts_of ps) p.used d.new n same)))));
      named = λ xs.
          p.named xs ∙ (ap (λ v. map placed_word p.used ++ met is_named (part ∷ more ∷ xs) v) r.is
          ∙ (ap (λ v. map placed_word p.used ++ v) (part_named_lem z n r.first r.second r.end (tokens_left u) (more ∷ xs))
          ∙ (sym (append_assoc (map placed_word p.used) (placed_word n ∷ []) (met is_named (more ∷ xs) (tokens_left u)))
          ∙ ap (λ v. v ++ met is_named (more ∷ xs) (tokens_left u)) (sym (map-append placed_word p.used (n ∷ []))))));
      passed = λ xs.
          p.passed xs ∙ (ap (λ v. clean (room - length (parts_of ps)) (more ∷ xs) v) spells
          ∙ (part_clean (sized_as z (bytes_of n)) (room - length (parts_of ps)) (plain (tokens_left u)) xs some (good_part z (bytes_of n) r.within)
          ∙ ap (λ v. clean v (more ∷ xs) (plain (tokens_left u))) less));
      placed = placed_push s.line.number p.used n p.placed (r.line ∙ ap (λ v. v.number) k);
    }

-- the bracket after a part

pub parts_on : (room : ℕ) (before after : List Name) (s u v : Tokens) (ps : Parts) (b : Placed Bracket)
    → PartsPast room before after s (tokens_left u) ps → u.line ≡ s.line → Took bracket_at u v b → b.value ≡ Open → PartsIn room before after s v ps
parts_on room before after s u v ps b p k r o = record {
  column = b.column;
  past =
      subst (λ w. PartsPast room before after s w ps)
      (r.is ∙ ap (λ (w : Bracket). (bracket_at w, b.column) ∷ tokens_left v) o) p;
  kept = r.kept ∙ k;
}

pub parts_end : (room : ℕ) (before after : List Name) (s u v : Tokens) (ps : Parts) (b : Placed Bracket)
    → PartsPast room before after s (tokens_left u) ps → 1 ≤ length (parts_of ps) → u.line ≡ s.line → Took bracket_at u v b → b.value ≡ Close
    → PartsTo room before after s v ps
parts_end room before after s u v ps b p h k r o = record {
  column = b.column;
  past =
      subst (λ w. PartsPast room before after s w ps)
      (r.is ∙ ap (λ (w : Bracket). (bracket_at w, b.column) ∷ tokens_left v) o) p;
  some = h;
  kept = r.kept ∙ k;
}

-- where no parts stand

none_left : (ts : List Lexeme) (xs : List Want) → clean 0 (part ∷ xs) ts ≡ false
none_left [] xs = refl
none_left (opening ∷ ts) xs = refl
none_left (closing ∷ ts) xs = refl
none_left (number w ∷ ts) xs = refl
none_left (word w ∷ ts) xs = refl

module _ (room : ℕ) (before mid : List Name) (s t : Tokens) (ps : Parts) (p : PartsIn room before mid s t ps) where
  grew : Grew before mid
  grew = record { used = p.past.used; grown = p.past.grown }

  pub too_many_lem : (v : Tokens) → room ≤ length (parts_of ps) → TookParts room before mid s v None
  too_many_lem v h =
      let z : room - length (parts_of ps) ≡ 0 = omega arith in (
        grew,
        λ r xs.
            p.past.passed xs ∙ (ap (λ k. clean k (part ∷ more ∷ xs) (plain (tokens_left t))) z ∙ none_left (plain (tokens_left t)) (more ∷ xs)),
      )

  pub not_added : (u v : Tokens) (after : List Name) (qs : Parts) (l : PartLine) → length (parts_of ps) < room → PartTo t u l → AddedPart l ps qs mid after None
      → TookParts room before after s v None
  not_added u v after qs l h r d =
      let n : length mid ≡ length before + length p.past.used = ap length p.past.grown ∙ length-append before p.past.used in (
        subst (Grew before) (sym d.0) grew,
        λ q xs.
            absurd (d.1 r.low r.high (omega (arith, q.0)) (omega (arith, n, p.past.counted, q.0, q.1))),
      )

pub no_more : (room : ℕ) (before after : List Name) (s u v : Tokens) (ps : Parts) → PartsPast room before after s (tokens_left u) ps
    → Dead more (tokens_left u) → TookParts room before after s v None
no_more room before after s u v ps p d =
    (record { used = p.used; grown = p.grown }, λ r xs. p.passed xs ∙ d (room - length (parts_of ps)) xs)
