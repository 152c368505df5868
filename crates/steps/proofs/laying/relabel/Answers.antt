use Rattle.std.proofs.Common.{◌<◌, ◌∷◌, length, ap, ◌∙◌, arith}
use Rattle.stack.specs.Held.{entries, capacity}
use Rattle.steps.proofs.Layings.{push_lands, entries_fit}
use Rattle.steps.proofs.laying.relabel.Goals as goal

pub returns-clause-left : goal.returns-clause-left
returns-clause-left c =
    let popped = c.pop.ensures.popped in
    let room : length (entries c.pop.new.self) < capacity c.pop.new.self =
    omega (arith, ap length popped.entries_are, ap length c.requires.top, entries_fit c.args.stack.now, popped.size) in
    let pushed = push_lands c.pop.new.self c.push.new.self c.scope_at.result c.push.result c.push.ensures room in
    (c.scope_at.result, pushed ∙ ap (λ ws. c.scope_at.result ∷ ws) popped.entries_are, c.scope_at.ensures.0, c.scope_at.ensures.1)
