use Rattle.std.proofs.Common.{◌≡◌, ℕ, length, replicate, IfOk, ap, ◌∙◌, subst}
use Rattle.geometry.specs.Boxes.{span_on}
use Rattle.rows.specs.Rows.{repeat_row, tiles, tile_size, told}
use Rattle.rows.specs.Laws.{Lawful}
use Rattle.stack.specs.Held.{entries, capacity}
use Rattle.derivation.specs.Derive.{length_on}
use Rattle.steps.proofs.Actings.{tile_filling, tile_rules, divided}
use Rattle.steps.proofs.acting.tile_out.Goals as goal

pub cut-requires-clause-row : goal.cut-requires-clause-row
cut-requires-clause-row c =
    let e : c.on.result.size.0 ≡ length_on c.args.axis c.args.scope = ap (λ s. s.size.0) c.on.ensures in
    let L = length_on c.args.axis c.args.scope in
    tile_filling L c.args.rule (replicate (tiles L c.args.tile.length.0) tile_size) c.same_rule.result c.repeat-row.result
    (span_on c.args.axis c.args.scope.cuboid).some c.requires.known c.same_rule.ensures
    (subst (λ (L : ℕ). IfOk c.repeat-row.result (λ r. Lawful L (replicate (tiles L c.args.tile.length.0) tile_size) (told r))) e c.repeat-row.ensures.laws)

pub returns-clause-divides : goal.returns-clause-divides
returns-clause-divides c =
    let e : c.on.result.size.0 ≡ length_on c.args.axis c.args.scope = ap (λ s. s.size.0) c.on.ensures in
    divided c.args.scope c.args.axis c.repeat-row.result c.same_rule.result
    (repeat_row (length_on c.args.axis c.args.scope) c.args.tile.length.0) (λ ns. replicate (length ns) c.args.rule)
    (entries c.args.stack.now) (entries c.cut.new.stack) (capacity c.args.stack.now)
    (c.repeat-row.ensures.row ∙ ap (λ L. repeat_row L c.args.tile.length.0) e)
    (λ r _. tile_rules c.args.rule c.same_rule.result c.same_rule.ensures r)
    c.cut.result c.cut.ensures.cuts
