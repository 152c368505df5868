use Rattle.std.proofs.Common.{length, ap, ◌∙◌, arith, rules}
use Rattle.stack.specs.Held.{entries}
use Rattle.derivation.specs.Laws.{scope_volume}
use Rattle.build.proofs.Stacked.{volumes_fold}
use Rattle.build.proofs.closing.volume_over.Goals as goal

pub returns-clause-tells : goal.returns-clause-tells
returns-clause-tells c =
    let holds = c.resume-stack.ensures.holds in
    let sum = volumes_fold _ (entries c.resume-stack.result) 0 c.fold-volume.result (omega arith) c.fold-volume.ensures.folded (λ a w b r. search rules) in
    (c.len-count.ensures.value ∙ ap length (c.fold-volume.ensures.kept.entries_are ∙ holds), omega (arith, sum, ap scope_volume holds))
