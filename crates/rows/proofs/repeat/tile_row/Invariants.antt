use Rattle.std.proofs.Common.{◌-◌, replicate}
use Rattle.bounded.specs.Listed.{listed}
use Rattle.rows.specs.Rows.{tile_size}
use Rattle.rows.specs.Tiles.{tile_length}
use Rattle.rows.proofs.Fills.{Laying, onward}
use Rattle.rows.proofs.repeat.tile_row.Given as goal

abbrev pub invariant-loop-i : goal.invariant-loop-i
invariant-loop-i l =
    Laying (tile_length l.extent.0 l.n) (replicate l.n tile_size) (listed l.segments) l.i (onward (tile_length l.extent.0 l.n) l.i) (replicate (l.n - l.i) tile_size)
