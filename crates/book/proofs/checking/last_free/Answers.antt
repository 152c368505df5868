use Rattle.std.proofs.Common.{ap, sym, ◌∙◌, eqb}
use Rattle.book.proofs.Scans.{last_read}
use Rattle.book.proofs.checking.last_free.Goals as goal

pub returns : goal.returns
returns c = ap (λ n. eqb n 0) c.len.ensures.value ∙ sym (last_read c.args.lines.now c.in-Some.last.now c.in-Some.ensures.value)
