-- Material lines and lots, as whole lines.
use Rattle.std.proofs.Common.{◌≡◌, ℕ, ◌-◌, Bool, true, false, cond, not, ◌&&◌, ◌||◌, List, [], ◌∷◌, Some, None, codes, Option, sym, refl, ap, ◌∙◌}
use Rattle.std.proofs.lemmas.Bool.{both_ways}
use Rattle.geometry.specs.Limits.{site, least}
use Rattle.text.specs.Tokens.{Lexeme, opening, closing, number, word, tokens_of, tokens_left}
use Rattle.text.specs.declared.tokens.Tokens.{Tokens}
use Rattle.grammar.specs.Forms.{material, rule, lot, plain}
use Rattle.grammar.specs.Orders.{good_numbers}
use Rattle.grammar.specs.Wants.{form, name, shut, inside}
use Rattle.grammar.specs.declared.state.FileKind.TheVariants.{Rules, Lots}
use Rattle.grammar.specs.declared.state.Naming.TheVariants.{Declared}
use Rattle.forms.specs.Clean.{clean}
use Rattle.forms.specs.Met.{met, is_named}
use Rattle.forms.specs.Reads.{MaterialRead, LotRead}
use Rattle.forms.specs.Taken.{Headed, MaterialRest, LotRest, lot_wants}
use Rattle.forms.specs.Told.{Name, placed_word}
use Rattle.forms.specs.declared.lot.LotLine.{LotLine}

-- after its head the line has these lexemes
pub past_head : (w : List ℕ) (s t : Tokens) (us : List (Lexeme × ℕ)) (ts : List Lexeme) → us ≡ tokens_left s → Headed w s t
    → plain us ≡ opening ∷ word w ∷ ts → plain (tokens_left t) ≡ ts
past_head w s t us ts e h q =
    let p : opening ∷ word w ∷ plain (tokens_left t) ≡ plain us = ap plain (sym (e ∙ h.is)) in
    cc

module _ (n : ℕ) (l : List ℕ) (s t : Tokens) (all : tokens_left s ≡ tokens_of l) (place : s.line.number ≡ n) where
  pub material_read : (r : Option Name) → Headed (codes "material") s t → MaterialRest t r → MaterialRead n l r
  material_read (Some m) h d =
      let e : tokens_of l ≡ (opening, h.outer) ∷ (word (codes "material"), h.inner) ∷ placed_word m ∷ (closing, d.0.0) ∷ [] =
      sym all ∙ (h.is ∙ ap (λ v. (opening, h.outer) ∷ (word (codes "material"), h.inner) ∷ v) d.0.1) in
      record {
        spelled = ap plain e;
        named = ap (met is_named (form Rules ∷ [])) e;
        placed = (d.1 ∙ (ap (λ v. v.number) h.kept ∙ place), tt);
      }
  material_read None h d = λ w q.
      both_ways _ d (ap (clean 0 (name Declared ∷ shut ∷ [])) (past_head _ s t (tokens_of l) _ (sym all) h q))

-- six tests one after the other
chain : (a b c d e f : Bool)
    → cond (not a || false) false (cond (not b || false) false (cond (not c || false) false (cond (not d || false) false (cond (not e || false) false (cond (not f || false) false true)))))
    ≡ (a && (b && (c && (d && (e && (f && true))))))
chain false b c d e f = refl
chain true false c d e f = refl
chain true true false d e f = refl
chain true true true false e f = refl
chain true true true true false f = refl
chain true true true true true false = refl
chain true true true true true true = refl

lot_clean : (px py pz sx sy sz w : List ℕ) → good_numbers (lot px py pz sx sy sz w) ≡ true
    → clean 0 lot_wants (number px ∷ number py ∷ number pz ∷ number sx ∷ number sy ∷ number sz ∷ word w ∷ closing ∷ []) ≡ true
lot_clean px py pz sx sy sz w g =
    chain (inside (0, site - 1) px) (inside (0, site - 1) py) (inside (0, site - 1) pz) (inside (least, site) sx) (inside (least, site) sy) (inside (least, site) sz) ∙ g

module _ (n : ℕ) (l : List ℕ) (s t : Tokens) (all : tokens_left s ≡ tokens_of l) (place : s.line.number ≡ n) where
  no_lot_lem : Headed (codes "lot") s t → clean 0 lot_wants (plain (tokens_left t)) ≡ false → LotRead n l None
  no_lot_lem h d (material w) fits g q = absurd fits
  no_lot_lem h d (rule w gs b) fits g q = absurd fits
  no_lot_lem h d (lot px py pz sx sy sz w) fits g q =
      both_ways _ d (ap (clean 0 lot_wants) (past_head _ s t (tokens_of l) _ (sym all) h q) ∙ lot_clean px py pz sx sy sz w g)

  pub lot_read : (r : Option LotLine) → Headed (codes "lot") s t → LotRest t r → LotRead n l r
  lot_read (Some r) h d =
      let e = sym all ∙ (h.is ∙ ap (λ v. (opening, h.outer) ∷ (word (codes "lot"), h.inner) ∷ v) d.is) in (
        record {
          spelled = ap plain e;
          named = ap (met is_named (form Lots ∷ [])) e;
          placed = (d.line ∙ (ap (λ v. v.number) h.kept ∙ place), tt);
        },
        d.ranged,
      )
  lot_read None h d = no_lot_lem h d

pub not_lot : (n : ℕ) (l : List ℕ) (s : Tokens) → tokens_left s ≡ tokens_of l
    → ((ts : List Lexeme) → plain (tokens_left s) ≡ opening ∷ word (codes "lot") ∷ ts → ⊥) → LotRead n l None
not_lot n l s all h (material w) fits g q = absurd fits
not_lot n l s all h (rule w gs b) fits g q = absurd fits
not_lot n l s all h (lot px py pz sx sy sz w) fits g q = h _ (ap plain all ∙ q)
