use Rattle.std.proofs.Common.{rules}
use Rattle.std.proofs.lemmas.Bool.{some_since, both_ways}
use Rattle.book_check.proofs.Clears.{accepted_tells}
use Rattle.book_check.proofs.Resolvings.{lines_pass}
use Rattle.book_check.proofs.resolving.table_of.Goals as goal

pub unwrap-requires : goal.unwrap-requires
unwrap-requires c =
    let ps = c.args.book.now in
    let p = lines_pass ps (accepted_tells ps c.requires) c.resolve.result (search rules) c.resolve.ensures in
    some_since c.new.result _ _ c.new.ensures (λ e. both_ways _ e p)
