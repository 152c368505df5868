use Rattle.std.proofs.Common.{◌≡◌, ◌++◌, length, drop}
use Rattle.rows.specs.Sizes.{InRange}
use Rattle.rows.specs.Rows.{sizes, parts_of}
use Rattle.rows.proofs.parts.Parts.from_sizes.Given as goal

abbrev pub invariant-loop-size : goal.invariant-loop-size
invariant-loop-size l =
    (sizes (parts_of l.parts) ++ drop l.size-index l.wanted ≡ l.wanted)
    × (length (parts_of l.parts) ≡ l.size-index)
    × (InRange l.wanted → InRange (drop l.size-index l.wanted))
