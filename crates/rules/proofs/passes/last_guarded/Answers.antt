use Rattle.std.proofs.Common.{Bool, ltb, length, sym, ap, ◌∙◌, arith}
use Rattle.forms.specs.Told.{guards_of}
use Rattle.forms.specs.declared.rule.RuleLine.{RuleLine}
use Rattle.rules.proofs.Lists.{last_is_lem}
use Rattle.rules.proofs.passes.last_guarded.Goals as goal

abbrev guards : RuleLine → Bool
guards r = ltb 0 (length (guards_of r))

pub returns-in-len1-up : goal.returns-in-len1-up
returns-in-len1-up c =
    ap (ltb 0) c.len.ensures.value
    ∙ (ap guards c.last-item.is ∙ sym (last_is_lem guards c.args.lines.now c.last-item.result (omega arith)))
