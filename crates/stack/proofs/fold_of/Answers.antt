use Rattle.stack.proofs.Stacks.{fold_last}
use Rattle.stack.proofs.fold_of.Goals as goal

pub loop-x-preserved : goal.loop-x-preserved
loop-x-preserved g c = λ b h. c.loop-x.invariant b (fold_last (λ a x d. goal.F-post g c.args.f a x d) _ _ b _ _ _ c.in-Some.ensures.steps c.f-all.ensures h)
