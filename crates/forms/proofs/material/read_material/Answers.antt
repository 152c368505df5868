use Rattle.std.proofs.Common.{ap, ◌∙◌}
use Rattle.grammar.specs.Forms.{plain}
use Rattle.forms.proofs.Whole.{material_read}
use Rattle.forms.proofs.material.read_material.Goals as goal

pub returns-in_err-expect_head : goal.returns-in_err-expect_head
returns-in_err-expect_head c =
    rw c.from_residual.ensures (λ w q. c.in_err-expect_head.ensures _ (ap plain c.of-tokens.ensures.all ∙ q))

pub returns : goal.returns
returns c =
    material_read c.args.line.number c.args.line.bytes.now _ _ c.of-tokens.ensures.all c.of-tokens.ensures.place _
    c.in_ok-expect_head.ensures c.rest_of_material.ensures
