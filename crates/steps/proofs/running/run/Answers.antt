use Rattle.std.proofs.Common.{refl, subst}
use Rattle.stack.specs.Held.{entries}
use Rattle.book.specs.Lines.{lines_of}
use Rattle.steps.specs.Acting.{Moved}
use Rattle.steps.proofs.Layings.{same_slice}
use Rattle.steps.proofs.Runnings.{none_yet, one_more, moved_on}
use Rattle.steps.proofs.running.run.Goals as goal

pub loop-steps-init : goal.loop-steps-init
loop-steps-init g c = record { slice = (refl, refl); far = none_yet g.S.Sink.edge g.S.Sink.parts g.S.Sink.took g.S.Sink.kept (lines_of c.args.table.now) _ _ }

pub loop-steps-preserved : goal.loop-steps-preserved
loop-steps-preserved g c =
    let k = g.S.Sink in
    let i = c.loop-steps.invariant in
    let kept = c.top.ensures.kept in
    let m = moved_on k.edge k.parts k.took k.kept (lines_of c.args.table.now) _ _ _ _ _ c.step.result c.in_default-step.not-Err c.step.ensures.steps in
    let n = subst (λ w. Moved k.edge k.parts k.took k.kept (lines_of c.args.table.now) w (entries c.step.new.stack) c.loop-steps.sink c.step.new.sink) kept.entries_are m in
    record {
      slice = same_slice c.args.stack.now c.top.new.self c.step.new.stack (same_slice c.args.stack.now c.loop-steps.stack c.top.new.self i.slice (kept.size, kept.lender)) c.step.ensures.slice;
      far = one_more k.edge k.parts k.took k.kept (lines_of c.args.table.now) i.far n;
    }
