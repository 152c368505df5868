use Rattle.std.proofs.Common.{◌∙◌}
use Rattle.steps.proofs.laying.piece.Goals as goal

pub returns-clause-cuboid : goal.returns-clause-cuboid
returns-clause-cuboid c =
    let p = c.in-Some.ensures in
    (p.0, p.1, c.scope_at.ensures.0 ∙ p.2)
