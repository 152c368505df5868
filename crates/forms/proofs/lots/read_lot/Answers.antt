use Rattle.forms.proofs.Whole.{lot_read, not_lot}
use Rattle.forms.proofs.lots.read_lot.Goals as goal

pub returns-in_err-expect_head : goal.returns-in_err-expect_head
returns-in_err-expect_head c =
    rw c.from_residual.ensures
    (not_lot c.args.line.number c.args.line.bytes.now c.of-tokens.result c.of-tokens.ensures.all c.in_err-expect_head.ensures)

pub returns : goal.returns
returns c =
    lot_read c.args.line.number c.args.line.bytes.now _ _ c.of-tokens.ensures.all c.of-tokens.ensures.place _
    c.in_ok-expect_head.ensures c.rest_of_lot.ensures
