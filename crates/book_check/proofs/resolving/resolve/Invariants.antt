use Rattle.std.proofs.Common.{◌≡◌, ℕ, ◌<◌, ◌≤◌, length, get_or, drop}
use Rattle.book.specs.declared.line.Line.{Line}
use Rattle.forms.specs.Told.{Name}
use Rattle.forms.specs.declared.rule.RuleLine.{RuleLine}
use Rattle.book_check.specs.Resolved.{LineOf, Filler}
use Rattle.book_check.proofs.resolving.resolve.Given as goal

-- the names and the rule lines that are left, the places that are filled, and the others
abbrev pub invariant-loop-i : goal.invariant-loop-i
invariant-loop-i l =
    let left = l.i-iterator in
    (length l.lines ≡ 64)
    × ((k : ℕ) (n : Name) (r : RuleLine) (d : Line) → k < left.count → LineOf l.book (get_or l.book.names k n) (get_or l.book.lines k r) (get_or l.lines k d))
    × ((k : ℕ) (d : Line) → left.count ≤ k → k < 64 → Filler (get_or l.lines k d))
    × (drop left.count l.book.names ≡ left.iter.a.rest.now)
    × (drop left.count l.book.lines ≡ left.iter.b.rest.now)
    × (left.count ≤ length l.book.lines)
