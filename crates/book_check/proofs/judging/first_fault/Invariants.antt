use Rattle.std.proofs.Common.{◌≡◌, drop}
use Rattle.book_check.specs.Faults.{lines_fault, book_fault}
use Rattle.book_check.proofs.judging.first_fault.Given as goal

-- the names that are left, and what is found from here on
abbrev pub invariant-loop-i : goal.invariant-loop-i
invariant-loop-i l =
    let left = l.i-iterator in
    (drop left.count l.book.names ≡ left.iter.a.rest.now)
    × (lines_fault l.book left.count left.iter.a.rest.now left.iter.b.rest.now ≡ book_fault l.book)
