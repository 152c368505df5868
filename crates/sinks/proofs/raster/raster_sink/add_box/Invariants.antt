use Rattle.std.proofs.Common.{◌+◌, ◌*◌}
use Rattle.sinks.specs.Rasters.{SharedIn}
use Rattle.sinks.proofs.raster.raster_sink.add_box.Given as goal

abbrev pub invariant-loop-k : goal.invariant-loop-k
invariant-loop-k l = SharedIn 0 (256 * l.k) l.cuboid l.fn.cells l.cells

abbrev pub invariant-loop-j : goal.invariant-loop-j
invariant-loop-j l = SharedIn 0 (16 * l.j + 256 * l.k) l.cuboid l.fn.cells l.cells

abbrev pub invariant-loop-i : goal.invariant-loop-i
invariant-loop-i l = SharedIn 0 (l.i + 16 * l.j + 256 * l.k) l.cuboid l.fn.cells l.cells
