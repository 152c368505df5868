use Rattle.std.proofs.Common.{take, drop, ap, ◌∙◌}
use Rattle.book_check.proofs.Finds.{cut_out}
use Rattle.book_check.proofs.names.used_by.Goals as goal

pub returns : goal.returns
returns c =
    cut_out c.args.uses.now c.args.line.now.from c.uses_of.result c.min.result c.min-2.result c.min.ensures c.min-2.ensures
    ∙ ap (λ n. take n (drop c.args.line.now.from c.args.uses.now)) c.uses_of.ensures
