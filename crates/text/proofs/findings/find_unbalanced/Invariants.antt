use Rattle.std.proofs.Common.{◌≡◌, ◌+◌, [], drop}
use Rattle.stack.specs.Held.{entries, capacity}
use Rattle.text.specs.Findings.{levels}
use Rattle.text.specs.Scans.{scanned}
use Rattle.text.proofs.findings.find_unbalanced.Given as goal

abbrev pub invariant-loop-i : goal.invariant-loop-i
invariant-loop-i l =
    (capacity l.opened ≡ levels) × (scanned (l.i + 1) (entries l.opened) (drop l.i l.line) ≡ scanned 1 [] l.line)
