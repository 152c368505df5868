use Rattle.std.proofs.Common.{rules}
use Rattle.bounded.specs.Listed.{listed}
use Rattle.forms.specs.Fronts.{ItemTo}
use Rattle.forms.specs.declared.words.Item.TheVariants.{Guard}
use Rattle.forms.proofs.Fronted.{guards_more}
use Rattle.forms.proofs.Pushes.{pushed}
use Rattle.forms.proofs.guards.read_guards.Goals as goal

pub loop-guards-preserved : goal.loop-guards-preserved
loop-guards-preserved c =
    let word : ItemTo c.loop-guards.tokens c.expect_item.new.tokens Guard = search rules in
    let more = pushed _ (listed c.loop-guards.guards) c.in_ok-read_guard-in-Guard.field-0 _ c.push.result c.in_ok-ok-in-Guard.field-0 c.push.ensures.pushed
    c.in_ok-ok-in-Guard.ensures.value in
    rw more.1
    (guards_more c.args.tokens.now c.loop-guards.tokens c.expect_item.new.tokens c.read_guard.new.tokens (listed c.loop-guards.guards)
    c.in_ok-read_guard-in-Guard.field-0 more.0 c.loop-guards.invariant word c.in_ok-read_guard-in-Guard.ensures)
