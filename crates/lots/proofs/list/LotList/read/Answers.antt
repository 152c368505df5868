use Rattle.std.proofs.lemmas.Result.{err_from_is_err_and}
use Rattle.lots.proofs.Onward.{read_refused, read_through}
use Rattle.lots.proofs.list.LotList.read.Goals as goal

pub returns-in_err-read_file : goal.returns-in_err-read_file
returns-in_err-read_file c =
    let p = err_from_is_err_and c.from_residual.result c.from_residual.ensures.1 in
    rw (p.1, p.2)
    (let h = read_refused c.args.text.now c.read_file.new.to c.in_err-read_file.field-0.0 c.in_err-read_file.ensures in
    record { verdict = h.verdict_is; order = h.order; holds = h.holds; fits = h.few })

pub returns : goal.returns
returns c =
    let h = read_through c.args.text.now c.read_file.new.to c.find_no_lot.result c.in_ok-read_file.ensures c.find_no_lot.ensures in
    record { verdict = h.verdict_is; order = h.order; holds = h.holds; fits = h.few }
