use Rattle.std.proofs.Common.{refl}
use mathlib.Core.Logic.{∥∥₁_elim}
use Rattle.book.specs.Lines.{lines_of}
use Rattle.book_check.proofs.Clears.{accepted_tells}
use Rattle.book_check.proofs.Stays.{stays_in_rule, stays_prop}
use Rattle.book_check.proofs.checked.CheckedBook.table.Goals as goal

pub returns : goal.returns
returns c =
    let b = c.args.self.now in
    let ps = b.book in
    let ls = lines_of b.table in
    record { lines = refl; means = b.means; stays = ∥∥₁_elim b.means (stays_prop ps ls) (stays_in_rule ps (accepted_tells ps b.sound) ls) }
