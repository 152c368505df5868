use Rattle.forms.proofs.Bodied.{split_body}
use Rattle.forms.proofs.body.read_split.Goals as goal

pub returns : goal.returns
returns c =
    split_body c.args.room c.args.uses.now c.read_parts.new.uses c.args.tokens.now
    c.expect_axis.new.tokens c.expect_open.new.tokens c.read_parts.new.tokens c.in_ok-axis.axis
    c.in_ok-expect_open.field-0 c.in_ok-parts.parts c.in_ok-axis.ensures c.in_ok-expect_open.ensures
    c.in_ok-parts.ensures
