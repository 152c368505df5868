use Rattle.std.proofs.Common.{Ok, sym, subst}
use Rattle.stack.specs.Held.{entries, capacity}
use Rattle.book.specs.declared.body.Body.{Body}
use Rattle.steps.specs.Acting.{Acts}
use Rattle.steps.proofs.Actings.{acts_tile, acts_split, acts_use}
use Rattle.steps.proofs.acting.act.Goals as goal

pub returns-in-Use-clause-acts : goal.returns-in-Use-clause-acts
returns-in-Use-clause-acts g c =
    let first = entries c.args.stack.now in
    let last = entries c.relabel.new.stack in
    let cap = capacity c.args.stack.now in
    let x = c.args.sink.now in
    subst (λ (b : Body). Acts g.S.Sink.edge g.S.Sink.parts g.S.Sink.took g.S.Sink.kept b c.args.scope first last cap x x (Ok tt)) (sym c.in-Use.is)
    (acts_use g.S.Sink.edge g.S.Sink.parts g.S.Sink.took g.S.Sink.kept c.in-Use.rule c.args.scope first last cap x c.relabel.ensures.left)

pub returns-in-Repeat-clause-acts : goal.returns-in-Repeat-clause-acts
returns-in-Repeat-clause-acts g c =
    let first = entries c.args.stack.now in
    let last = entries c.tile_out.new.stack in
    let cap = capacity c.args.stack.now in
    let x = c.args.sink.now in
    subst (λ (b : Body). Acts g.S.Sink.edge g.S.Sink.parts g.S.Sink.took g.S.Sink.kept b c.args.scope first last cap x x c.tile_out.result) (sym c.in-Repeat.is)
    (acts_tile g.S.Sink.edge g.S.Sink.parts g.S.Sink.took g.S.Sink.kept c.in-Repeat.axis c.in-Repeat.tile c.in-Repeat.rule c.args.scope first last cap x c.tile_out.result c.tile_out.ensures.divides)

pub returns-in-Split-clause-acts : goal.returns-in-Split-clause-acts
returns-in-Split-clause-acts g c =
    let first = entries c.args.stack.now in
    let last = entries c.split_up.new.stack in
    let cap = capacity c.args.stack.now in
    let x = c.args.sink.now in
    subst (λ (b : Body). Acts g.S.Sink.edge g.S.Sink.parts g.S.Sink.took g.S.Sink.kept b c.args.scope first last cap x x c.split_up.result) (sym c.in-Split.is)
    (acts_split g.S.Sink.edge g.S.Sink.parts g.S.Sink.took g.S.Sink.kept c.in-Split.axis c.in-Split.parts c.in-Split.rules c.args.scope first last cap x c.split_up.result c.split_up.ensures.divides)
