use Rattle.std.proofs.Common.{false, List, [], ◌∷◌, length, subst}
use Rattle.bounded.proofs.Listed.{listed_few}
use Rattle.book.specs.declared.line.Line.{Line}
use Rattle.book.proofs.Checkings.{lines_checked}
use Rattle.build.specs.Builds.{waiting_in, space_of, lines_in, steps_of, lots_of, passed}
use Rattle.build.specs.History.{closed, close}
use Rattle.build.specs.Carried.{Carried}
use Rattle.build.proofs.Histories.{lawful}
use Rattle.build.proofs.Callings.{stages, passed_few, opened_at}
use Rattle.build.proofs.calls.carry_out.Goals as goal

pub returns : goal.returns
returns g c = λ empty.
    let first = c.open-build.result.build in
    let last = c.carry_all.new.build in
    let joined = c.args.joined in
    let lots = passed (length c.args.slots.now) (lots_of joined) in
    let start = c.args.sink.now in
    let r = c.close-closed.result in
    let ok = lines_checked (lines_in first) first.table.full first.table.checked in
    let few = passed_few (length c.args.slots.now) (lots_of joined) (listed_few joined.lots) in
    let at_first = opened_at g.S.Sink.edge g.S.Sink.parts g.S.Sink.took g.S.Sink.kept g.S.Sink.text (lines_in first) (space_of first) lots (waiting_in first) (steps_of first) start
    c.open-build.ensures.waits c.open-build.ensures.steps in
    let so = c.carry_all.ensures.more lots start [] at_first in
    let shut = close r so.2 c.close-closed.ensures.waited c.close-closed.ensures.steps in
    let end = c.ask_all.ensures (lines_in first) (space_of first) lots start (closed r ∷ so.0) false (waiting_in last) (steps_of last) shut in
    subst (λ (ls : List Line). Carried g.S.Sink.edge g.S.Sink.parts ls lots c.args.calls.now r c.args.after.now (g.S.Sink.parts c.ask_all.new.sink)) c.open-build.ensures.lines
    (record {
      before = so.0;
      events = end.0;
      made_before = so.1;
      made_all = end.1;
      stages = stages g.S.Sink.edge g.S.Sink.parts g.S.Sink.took g.S.Sink.kept g.S.Sink.text (lines_in first) (space_of first) lots start ok few empty end.2;
      waiting = waiting_in last;
      counts = steps_of last;
      end = lawful g.S.Sink.edge g.S.Sink.parts g.S.Sink.took g.S.Sink.kept g.S.Sink.text (lines_in first) (space_of first) lots start ok few empty end.2;
    })
