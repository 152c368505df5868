-- Rule lines, as whole lines.
use Rattle.std.proofs.Common.{◌≡◌, ℕ, ◌+◌, ◌<◌, ◌≤◌, min, false, List, [], ◌∷◌, length, take, Some, None, codes, Option, sym, refl, ap, ◌∙◌, subst, arith}
use lib.Seq.{take-length}
use Rattle.std.proofs.lemmas.List.{take_at}
use Rattle.std.proofs.lemmas.Bool.{both_ways}
use Rattle.rows.specs.Parts.{most_parts}
use Rattle.text.specs.Tokens.{Lexeme, opening, word, tokens_of, tokens_left}
use Rattle.text.specs.declared.tokens.Tokens.{Tokens}
use Rattle.grammar.specs.Forms.{guard_limit, plain}
use Rattle.grammar.specs.Wants.{form, name, shut, items}
use Rattle.grammar.specs.declared.state.FileKind.TheVariants.{Rules}
use Rattle.grammar.specs.declared.state.Naming.TheVariants.{Own}
use Rattle.forms.specs.Clean.{clean}
use Rattle.forms.specs.Met.{met, is_named}
use Rattle.forms.specs.Reads.{InLine, name_room, use_room, NoRule}
use Rattle.forms.specs.RuleLines.{TookRule, RuleIn}
use Rattle.forms.specs.Taken.{Headed}
use Rattle.forms.specs.Told.{Name, placed_word}
use Rattle.forms.specs.declared.rule.RuleLine.{RuleLine}
use Rattle.forms.proofs.Cleaned.{rule_clean}
use Rattle.forms.proofs.Whole.{past_head}

module _ (n room most : ℕ) (l : List ℕ) (names names' uses uses' : List Name) (s t : Tokens) (all : tokens_left s ≡ tokens_of l) (place : s.line.number ≡ n)
    (small : most ≡ min room most_parts) (h : Headed (codes "rule") s t) where
  no_rule : (length names < name_room → (most ≤ most_parts) × (length uses + most_parts ≤ use_room)
      → clean most (name Own ∷ items guard_limit ∷ shut ∷ []) (plain (tokens_left t)) ≡ false) → NoRule l room names uses
  no_rule d w gs b fits g few most-few free roomy q =
      both_ways _ (d free (omega arith, roomy))
      (ap (clean most (name Own ∷ items guard_limit ∷ shut ∷ [])) (past_head _ s t (tokens_of l) _ (sym all) h q)
      ∙ rule_clean w gs b most fits (omega arith) g)

  pub rule_read : (r : Option RuleLine) → TookRule most names names' uses uses' t r → RuleIn n l room names names' uses uses' r
  rule_read (Some r) d =
      let e = sym all ∙ (h.is ∙ ap (λ v. (opening, h.outer) ∷ (word (codes "rule"), h.inner) ∷ v) d.is) in
      let number : t.line.number ≡ n = ap (λ v. v.number) h.kept ∙ place in
      record {
        own = d.own;
        used = d.items.used;
        named = d.grown;
        grown = d.items.grown;
        from = d.items.from;
        counted = d.items.counted;
        few = d.items.few;
        says = record {
          spelled = ap plain e ∙ ap (λ v. opening ∷ word (codes "rule") ∷ (placed_word d.own).0 ∷ v) d.items.spelled;
          named = ap (met is_named (form Rules ∷ [])) e ∙ ap (λ v. placed_word d.own ∷ v) d.items.named;
          placed = (d.line ∙ number, subst (λ k. InLine k d.items.used) (ap (λ v. v.number) d.kept ∙ number) d.items.placed);
        };
      }
  rule_read None d = (d.0, ap (take (length uses)) d.1.grown ∙ take_at uses d.1.used (length uses) refl, no_rule d.2)

pub not_rule : (n room : ℕ) (l : List ℕ) (names uses : List Name) (s : Tokens) → tokens_left s ≡ tokens_of l
    → ((ts : List Lexeme) → plain (tokens_left s) ≡ opening ∷ word (codes "rule") ∷ ts → ⊥) → RuleIn n l room names names uses uses None
not_rule n room l names uses s all h =
    (refl, take-length uses, λ w gs b fits g few most-few free roomy q. h _ (ap plain all ∙ q))
