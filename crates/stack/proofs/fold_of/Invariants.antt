use Rattle.std.proofs.Common.{reverse}
use Rattle.std.specs.List.{FoldsTo}
use Rattle.stack.specs.Held.{held}
use Rattle.stack.proofs.fold_of.Given as goal

-- what folds over the entries still to come folds over all of them
abbrev pub invariant-loop-x : goal.invariant-loop-x
invariant-loop-x g l =
    (b : _) → FoldsTo (λ a x c. goal.F-post g l.f a x c) l.all (reverse l.x-iterator.iter.rest.now) b
    → FoldsTo (λ a x c. goal.F-post g l.f a x c) l.fn.init (held l.fn.slots l.fn.mark) b
