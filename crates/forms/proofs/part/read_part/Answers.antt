use Rattle.forms.proofs.Parted.{part_taken}
use Rattle.forms.proofs.part.read_part.Goals as goal

pub returns : goal.returns
returns c =
    part_taken c.args.tokens.now c.expect_kind.new.tokens c.expect_number.new.tokens c.expect_last_name.new.tokens
    c.in_ok-kind.kind c.in_ok-amount.amount c.in_ok-name.name c.range_of-low.result.0
    c.range_of-low.result.1 c.size_of.result c.range_of-low.ensures.0 c.range_of-low.ensures.1 c.size_of.ensures
    c.in_ok-kind.ensures c.in_ok-amount.ensures c.in_ok-name.ensures
