use Rattle.forms.proofs.Ruled.{rule_read, not_rule}
use Rattle.forms.proofs.rules.rule_in.Goals as goal

pub returns : goal.returns
returns c =
    rule_read c.args.line.number c.args.room c.min.result c.args.line.bytes.now c.args.names.now
    c.rest_of_rule.new.names c.args.uses.now c.rest_of_rule.new.uses c.of-tokens.result
    c.expect_head.new.tokens c.of-tokens.ensures.all c.of-tokens.ensures.place c.min.ensures
    c.in_ok-expect_head.ensures c.rest_of_rule.result c.rest_of_rule.ensures

pub returns-in_err-expect_head : goal.returns-in_err-expect_head
returns-in_err-expect_head c =
    rw c.from_residual.ensures
    (not_rule c.args.line.number c.args.room c.args.line.bytes.now c.args.names.now c.args.uses.now
    c.of-tokens.result c.of-tokens.ensures.all c.in_err-expect_head.ensures)
