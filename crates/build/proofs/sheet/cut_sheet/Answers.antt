use Rattle.std.proofs.Common.{ℕ, List, [], ◌∷◌, length, sym, subst}
use Rattle.geometry.specs.declared.scope.Scope.{Scope}
use Rattle.bounded.proofs.Listed.{listed_few}
use Rattle.book.specs.declared.line.Line.{Line}
use Rattle.book.proofs.Checkings.{lines_checked}
use Rattle.steps.specs.Acting.{Ran}
use Rattle.build.specs.Builds.{waiting_in, space_of, lines_in, steps_of, lots_of, passed}
use Rattle.build.specs.History.{ran, closed, run, close}
use Rattle.build.specs.Lawful.{Lawful}
use Rattle.build.proofs.Histories.{lawful}
use Rattle.build.proofs.Callings.{passed_few, opened_at}
use Rattle.build.proofs.sheet.cut_sheet.Goals as goal

pub returns : goal.returns
returns g c =
    let first = c.open-build.result.build in
    let last = c.run-outcome.new.self in
    let joined = c.args.joined in
    let cap = length c.args.slots.now in
    let lots = passed cap (lots_of joined) in
    let x = c.args.sink.now in
    let y = c.run-outcome.new.sink in
    let budget = c.args.budget in
    let n = c.run-outcome.result.steps in
    let e = c.run-outcome.result.ending in
    let r = c.close-closed.result in
    let opens = c.open-build.ensures in
    let edge = g.S.Sink.edge in
    let parts = g.S.Sink.parts in
    let took = g.S.Sink.took in
    let kept = g.S.Sink.kept in
    let text = g.S.Sink.text in
    let runs = c.run-outcome.ensures.ran in
    record {
      waiting = waiting_in last;
      run = subst (λ (ls : List Line). Ran edge parts took kept ls lots (waiting_in last) cap x y budget n e) opens.lines
          (subst (λ (ws : List Scope). Ran edge parts took kept (lines_in first) ws (waiting_in last) cap x y budget n e) opens.waits
          (subst (λ (k : ℕ). Ran edge parts took kept (lines_in first) (waiting_in first) (waiting_in last) k x y budget n e) opens.space runs));
      told = c.close-closed.ensures.waited;
      laws = λ empty.
          let ok = lines_checked (lines_in first) first.table.full first.table.checked in
          let few = passed_few cap (lots_of joined) (listed_few joined.lots) in
          let at_first = opened_at edge parts took kept text (lines_in first) (space_of first) lots (waiting_in first) (steps_of first) x opens.waits opens.steps in
          let after = run budget n e at_first runs c.run-outcome.ensures.steps in
          let shut = close r after c.close-closed.ensures.waited c.close-closed.ensures.steps in
          subst (λ (ls : List Line). Lawful edge ls lots (closed r ∷ ran budget n e ∷ []) (waiting_in last) r.steps (parts y)) opens.lines
          (subst (λ (k : ℕ). Lawful edge (lines_in first) lots (closed r ∷ ran budget n e ∷ []) (waiting_in last) k (parts y)) (sym c.close-closed.ensures.steps)
          (lawful edge parts took kept text (lines_in first) (space_of first) lots x ok few empty shut));
    }
