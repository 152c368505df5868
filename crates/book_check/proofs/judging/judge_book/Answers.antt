use Rattle.std.proofs.Common.{◌∙◌}
use Rattle.book_check.proofs.Orders.{is_first, in_order_accepted}
use Rattle.book_check.proofs.judging.judge_book.Goals as goal

pub returns : goal.returns
returns c =
    let ps = c.args.book.now in
    let e = c.err.ensures.value ∙ c.first_fault.ensures in
    record { value = e; first = is_first ps c.err.result e; accepts = λ o. e ∙ in_order_accepted ps o }
