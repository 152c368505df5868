use Rattle.std.proofs.Common.{ℕ, true, List, ◌∷◌, Some, sym, ap, subst}
use Rattle.geometry.specs.declared.scope.Scope.{Scope}
use Rattle.build.specs.Builds.{waiting_in, steps_of, lines_in, space_of}
use Rattle.build.specs.History.{History, ran, waited, run, wait}
use Rattle.build.proofs.calls.carry.Goals as goal

pub returns-in-Run : goal.returns-in-Run
returns-in-Run g c = record {
  more = λ lots start es h. (
    ran c.in-Run.budget c.run.result.steps c.run.result.ending,
    ap Some (sym c.in-Run.is),
    run c.in-Run.budget c.run.result.steps c.run.result.ending h c.run.ensures.ran c.run.ensures.steps,
  );
  space = c.run.ensures.space;
  lines = c.run.ensures.lines;
}

pub returns-in-Waiting : goal.returns-in-Waiting
returns-in-Waiting g c = record {
  more = λ lots start es h. (
    waited c.waiting.result,
    ap Some (sym c.in-Waiting.is),
    subst (λ (ws : List Scope). History g.S.Sink.edge g.S.Sink.parts g.S.Sink.took g.S.Sink.kept g.S.Sink.text (lines_in c.args.build.now) (space_of c.args.build.now) lots start (waited c.waiting.result ∷ es) true ws (steps_of c.waiting.new.self) c.args.sink.now) (sym c.waiting.ensures.same)
        (subst (λ (n : ℕ). History g.S.Sink.edge g.S.Sink.parts g.S.Sink.took g.S.Sink.kept g.S.Sink.text (lines_in c.args.build.now) (space_of c.args.build.now) lots start (waited c.waiting.result ∷ es) true (waiting_in c.args.build.now) n c.args.sink.now) (sym c.waiting.ensures.steps)
        (wait c.waiting.result h c.waiting.ensures.tells)),
  );
  space = c.waiting.ensures.space;
  lines = c.waiting.ensures.lines;
}
