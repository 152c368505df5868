use Rattle.std.proofs.Common.{false, true, sym, ◌∙◌, rules}
use Rattle.rules.specs.Before.{looks}
use Rattle.rules.proofs.Added.{form_material, form_rule}
use Rattle.rules.proofs.reading.add_form.Goals as goal

pub returns-then-has : goal.returns-then-has
returns-then-has c =
    form_material _ _ _ _ _ (sym c.if-has.true ∙ c.has.ensures (looks false false true false) (λ s t r e. search rules)) c.add_material.ensures

pub returns-else-has : goal.returns-else-has
returns-else-has c =
    form_rule _ _ _ _ _ (sym c.if-has.false ∙ c.has.ensures (looks false false true false) (λ s t r e. search rules)) c.add_rule.ensures
