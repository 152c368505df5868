use Rattle.std.proofs.Common.{◌≡◌, drop}
use Rattle.book_check.specs.Faults.{used_fault}
use Rattle.book_check.proofs.judging.used_fault.Given as goal

abbrev pub invariant-loop-name : goal.invariant-loop-name
invariant-loop-name l = used_fault l.book l.i l.kind (drop l.name-index l.used) ≡ used_fault l.book l.i l.kind l.used
