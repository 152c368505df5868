use Rattle.std.proofs.Common.{None, sym, ◌∙◌}
use Rattle.std.proofs.lemmas.List.{at_drop_all}
use Rattle.book_check.specs.Faults.{used_fault}
use Rattle.book_check.proofs.Judgings.{used_more}
use Rattle.book_check.proofs.judging.used_fault.Goals as goal

pub loop-name-preserved : goal.loop-name-preserved
loop-name-preserved c =
    sym (used_more c.args.book.now c.args.i c.args.kind c.args.used.now c.loop-name.name-index _ None c.loop-name-test.true c.in_ok-name_fault.ensures)
    ∙ c.loop-name.invariant

pub returns : goal.returns
returns c =
    sym (at_drop_all (used_fault c.args.book.now c.args.i c.args.kind) c.args.used.now c.loop-name.name-index c.loop-name-test.false)
    ∙ c.loop-name.invariant
