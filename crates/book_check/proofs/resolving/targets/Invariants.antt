use Rattle.std.proofs.Common.{◌≡◌, map, length, take}
use Rattle.book_check.specs.Resolved.{meanings, target_of}
use Rattle.book_check.proofs.resolving.targets.Given as goal

abbrev pub invariant-loop-i : goal.invariant-loop-i
invariant-loop-i l = (length l.numbers ≡ 16) × (take l.i l.numbers ≡ map target_of (meanings l.book l.kind (take l.i l.used)))
