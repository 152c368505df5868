use Rattle.std.proofs.Common.{◌≡◌, ℕ, IfOk, ap, ◌∙◌, subst}
use Rattle.geometry.specs.Boxes.{span_on}
use Rattle.rows.specs.Rows.{sizes, parts_of, split_row, told}
use Rattle.rows.specs.Laws.{Lawful}
use Rattle.book.specs.Checks.{part_rules}
use Rattle.stack.specs.Held.{entries, capacity}
use Rattle.derivation.specs.Derive.{length_on}
use Rattle.steps.proofs.Actings.{split_filling, split_rules, divided}
use Rattle.steps.proofs.acting.split_up.Goals as goal

pub cut-requires-clause-row : goal.cut-requires-clause-row
cut-requires-clause-row c =
    let e : c.on.result.size.0 ≡ length_on c.args.axis c.args.scope = ap (λ s. s.size.0) c.on.ensures in
    split_filling (length_on c.args.axis c.args.scope) c.args.parts.now c.args.rules.now c.split-row.result
    (span_on c.args.axis c.args.scope.cuboid).some c.told-rules c.requires.known
    (subst (λ (L : ℕ). IfOk c.split-row.result (λ r. Lawful L (sizes (parts_of c.args.parts.now)) (told r))) e c.split-row.ensures.laws)

pub returns-clause-divides : goal.returns-clause-divides
returns-clause-divides c =
    let e : c.on.result.size.0 ≡ length_on c.args.axis c.args.scope = ap (λ s. s.size.0) c.on.ensures in
    divided c.args.scope c.args.axis c.split-row.result c.args.rules.now
    (split_row (length_on c.args.axis c.args.scope) (sizes (parts_of c.args.parts.now))) (λ _. part_rules c.args.parts.now c.args.rules.now)
    (entries c.args.stack.now) (entries c.cut.new.stack) (capacity c.args.stack.now)
    (c.split-row.ensures.row ∙ ap (λ L. split_row L (sizes (parts_of c.args.parts.now))) e)
    (split_rules c.on.result.size.0 c.args.parts.now c.args.rules.now c.split-row.result c.split-row.ensures.laws)
    c.cut.result c.cut.ensures.cuts
