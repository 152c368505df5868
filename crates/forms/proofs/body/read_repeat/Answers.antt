use Rattle.forms.proofs.Bodied.{repeat_body}
use Rattle.forms.proofs.body.read_repeat.Goals as goal

pub returns : goal.returns
returns c = λ room.
    repeat_body room c.args.uses.now c.read_use.new.uses c.args.tokens.now c.expect_axis.new.tokens
    c.expect_number.new.tokens c.read_use.new.tokens c.in_ok-axis.axis c.in_ok-length.length
    c.in_ok-tile.tile c.in_ok-axis.ensures c.in_ok-length.ensures c.in_ok-tile.ensures
    c.in_ok-read_use.ensures
