-- Bodies from what they are made of.
use Rattle.std.proofs.Common.{◌≡◌, ℕ, ◌-◌, ◌≤◌, List, [], ◌∷◌, length, is_some, Some, codes, decimal, sym, refl, ap, ◌∙◌, subst, arith}
use Rattle.geometry.specs.Limits.{site, least}
use Rattle.geometry.specs.declared.axis.Axis.{Axis}
use Rattle.geometry.specs.declared.axis.Axis.TheVariants.{X, Y, Z}
use Rattle.rows.specs.Rows.{parts_of}
use Rattle.rows.specs.declared.part.Part.{Part}
use Rattle.rows.specs.declared.parts.Parts.{Parts}
use Rattle.rows.specs.declared.tile.Tile.{Tile}
use Rattle.text.specs.Takes.{open_at}
use Rattle.text.specs.Tokens.{Lexeme, opening, closing, word, tokens_left}
use Rattle.text.specs.declared.placed.Placed.{Placed}
use Rattle.text.specs.declared.tokens.Tokens.{Tokens}
use Rattle.grammar.specs.Forms.{Axis as AxisWord, Part as PartForm, axis_text, spell_parts, spell_body, plain}
use Rattle.grammar.specs.Wants.{Want, name, axis, shut, parts, size}
use Rattle.grammar.specs.declared.state.Naming.TheVariants.{Material, Rule}
use Rattle.forms.specs.Bodies.{UseTo, BodyTo}
use Rattle.forms.specs.Clean.{clean}
use Rattle.forms.specs.Met.{met, is_named}
use Rattle.forms.specs.Reads.{InLine}
use Rattle.forms.specs.Splits.{PartsTo}
use Rattle.forms.specs.Taken.{Took, TookNumber, axis_at, decimal_at}
use Rattle.forms.specs.Told.{Name, bytes_of, placed_word, axis_of, part_forms, split_of}
use Rattle.forms.specs.declared.shape.Shape.TheVariants.{Make as MakeShape, Use as UseShape, Repeat as RepeatShape, Split as SplitShape}
use Rattle.forms.specs.declared.words.Head.TheVariants.{Make, Use, Repeat, Split}
use Rattle.forms.proofs.Cleaned.{axis_clean, number_clean}
use Rattle.bounded.proofs.Listed.{listed_few}

module _ (room : ℕ) (before after : List Name) (s t : Tokens) (h : UseTo before after s t) where
  pub make_body : BodyTo Make room before after s t MakeShape
  make_body = record {
    used = h.last ∷ [];
    grown = h.grown;
    counted = refl;
    few = omega arith;
    spelled = ap (λ v. opening ∷ word (codes "make") ∷ plain v) h.is;
    named = λ xs. ap (met is_named (name Material ∷ shut ∷ xs)) h.is;
    rest = room;
    passed = λ xs. ap (λ v. clean room (name Material ∷ shut ∷ xs) (plain v)) h.is;
    placed = (h.line, tt);
    kept = h.kept;
  }

  pub use_body : BodyTo Use room before after s t UseShape
  use_body = record {
    used = h.last ∷ [];
    grown = h.grown;
    counted = refl;
    few = omega arith;
    spelled = ap (λ v. opening ∷ word (codes "use") ∷ plain v) h.is;
    named = λ xs. ap (met is_named (name Rule ∷ shut ∷ xs)) h.is;
    rest = room;
    passed = λ xs. ap (λ v. clean room (name Rule ∷ shut ∷ xs) (plain v)) h.is;
    placed = (h.line, tt);
    kept = h.kept;
  }

axis_named : (a : Axis) (c : ℕ) (us : List (Lexeme × ℕ)) (xs : List Want) → met is_named (axis ∷ xs) ((axis_at a, c) ∷ us) ≡ met is_named xs us
axis_named X c us xs = refl
axis_named Y c us xs = refl
axis_named Z c us xs = refl

pub repeat_body : (room : ℕ) (before after : List Name) (s t u v : Tokens) (a : Placed Axis) (p : Placed ℕ) (l : Tile) → Took axis_at s t a
    → TookNumber least site t u (Some p) → l.length ≡ record { 0 = p.value } → UseTo before after u v
    → BodyTo Repeat room before after s v (RepeatShape a.value l)
repeat_body room before after s t u v a p l d e q h =
    let w : Lexeme × ℕ = (decimal_at p.value, p.column) in
    let is : tokens_left t ≡ w ∷ placed_word h.last ∷ (closing, h.end) ∷ tokens_left v = e.0.is ∙ ap (λ x. w ∷ x) h.is in
    let xs' : List (Lexeme × ℕ) = w ∷ placed_word h.last ∷ (closing, h.end) ∷ tokens_left v in
    let all : tokens_left s ≡ (axis_at a.value, a.column) ∷ xs' = d.is ∙ ap (λ x. (axis_at a.value, a.column) ∷ x) is in
    record {
      used = h.last ∷ [];
      grown = h.grown;
      counted = refl;
      few = omega arith;
      spelled =
          ap (λ x. opening ∷ word (codes "repeat") ∷ plain x) all
          ∙ ap (λ n. opening ∷ word (codes "repeat") ∷ axis_at a.value ∷ decimal_at n ∷ word (bytes_of h.last) ∷ closing ∷ plain (tokens_left v))
          (sym (ap (λ m. m.0) q));
      named = λ xs. ap (met is_named (axis ∷ size ∷ name Rule ∷ shut ∷ xs)) all ∙ axis_named a.value a.column xs' (size ∷ name Rule ∷ shut ∷ xs);
      rest = room;
      passed = λ xs.
          ap (λ x. clean room (axis ∷ size ∷ name Rule ∷ shut ∷ xs) (plain x)) all
          ∙ (axis_clean (axis_of a.value) room (plain xs') (size ∷ name Rule ∷ shut ∷ xs)
          ∙ number_clean (least, site) room (decimal p.value) (word (bytes_of h.last) ∷ closing ∷ plain (tokens_left v)) (name Rule ∷ shut ∷ xs) (ap is_some e.1));
      placed = (h.line ∙ ap (λ x. x.number) (e.0.kept ∙ d.kept), tt);
      kept = h.kept ∙ (e.0.kept ∙ d.kept);
    }

-- a split with a part

forms_length : (ps : List Part) (ns : List Name) → length ps ≡ length ns → length (part_forms ps ns) ≡ length ps
forms_length [] ns e = refl
forms_length (p ∷ ps) [] e = absurd (omega arith)
forms_length (p ∷ ps) (n ∷ ns) e = omega (arith, forms_length ps ns (omega arith))

split_spelled : (a : AxisWord) (fs : List PartForm) (us : List Lexeme) → 1 ≤ length fs
    → opening ∷ word (codes "split") ∷ word (axis_text a) ∷ spell_parts fs (closing ∷ us) ≡ spell_body (split_of a fs) us
split_spelled a [] us h = absurd (omega arith)
split_spelled a (f ∷ fs) us h = refl

pub split_body : (room : ℕ) (before after : List Name) (s t u v : Tokens) (a : Placed Axis) (b : Placed (Unit {0})) (ps : Parts) → Took axis_at s t a
    → Took open_at t u b → PartsTo room before after u v ps → BodyTo Split room before after s v (SplitShape a.value ps)
split_body room before after s t u v a b ps d e h =
    let all : tokens_left s ≡ (axis_at a.value, a.column) ∷ (opening, b.column) ∷ tokens_left u =
    d.is ∙ ap (λ x. (axis_at a.value, a.column) ∷ x) e.is in
    let same : length (parts_of ps) ≡ length h.past.used = sym h.past.counted in
    let some : 1 ≤ length (part_forms (parts_of ps) h.past.used) =
    omega (arith, forms_length (parts_of ps) h.past.used same, h.some) in
    record {
      used = h.past.used;
      grown = h.past.grown;
      counted = h.past.counted;
      few = omega (arith, h.past.counted, listed_few ps.parts);
      spelled =
          ap (λ x. opening ∷ word (codes "split") ∷ plain x) all
          ∙ (ap (λ x. opening ∷ word (codes "split") ∷ axis_at a.value ∷ x) h.past.spelled
          ∙ split_spelled (axis_of a.value) (part_forms (parts_of ps) h.past.used) (plain (tokens_left v)) some);
      named = λ xs.
          ap (met is_named (axis ∷ parts ∷ xs)) all
          ∙ (axis_named a.value a.column ((opening, b.column) ∷ tokens_left u) (parts ∷ xs) ∙ h.past.named xs);
      rest = room - length (parts_of ps);
      passed = λ xs.
          ap (λ x. clean room (axis ∷ parts ∷ xs) (plain x)) all
          ∙ (axis_clean (axis_of a.value) room (opening ∷ plain (tokens_left u)) (parts ∷ xs) ∙ h.past.passed xs);
      placed = let k : u.line.number ≡ s.line.number = ap (λ x. x.number) (e.kept ∙ d.kept) in subst (λ n. InLine n h.past.used) k h.past.placed;
      kept = h.kept ∙ (e.kept ∙ d.kept);
    }
