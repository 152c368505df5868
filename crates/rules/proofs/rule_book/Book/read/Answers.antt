use Rattle.rules.proofs.Onward.{read_whole}
use Rattle.rules.proofs.rule_book.Book.read.Goals as goal

pub returns : goal.returns
returns c =
    let h = read_whole c.args.text.now c.read_file.new.to c.read_file.result c.read_file.ensures in
    record { verdict = h.verdict_is; order = h.order; holds = h.holds; fits = h.fitting }
