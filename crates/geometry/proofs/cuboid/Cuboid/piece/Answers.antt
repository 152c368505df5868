use Rattle.std.proofs.Common.{◌+◌, ap, ◌∙◌}
use Rattle.geometry.proofs.cuboid.Cuboid.piece.Goals as goal

pub returns : goal.returns
returns c =
    let part = c.in_ok-span.ensures in (
      c.in_ok-span.span,
      (part.0 ∙ ap (λ s. s.at.0 + c.args.offset.0) c.on.ensures, part.1),
      c.with.ensures,
    )
