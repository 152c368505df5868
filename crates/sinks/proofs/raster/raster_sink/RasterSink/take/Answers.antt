use Rattle.std.proofs.Common.{◌≡◌, length, rules}
use Rattle.sinks.proofs.Materials.{noted_all}
use Rattle.sinks.proofs.Places.{cell_grown, still_small}
use Rattle.sinks.proofs.raster.raster_sink.RasterSink.take.Goals as goal

pub invariant_of-self : goal.invariant_of-self
invariant_of-self c =
    let s = c.args.self.now in
    let told = c.in_ok-receive.ensures in
    let l : length c.add_box.new.cells ≡ 4096 = search rules in
    record {
      small =
          still_small c.args.block.cuboid s.cells c.add_box.new.cells _ _ c.add_box.ensures l s.small
          (noted_all s.tallies c.receive.new.self c.args.block told.after told.judged.0);
    }

pub returns : goal.returns
returns c =
    let s = c.args.self.now in
    let told = c.in_ok-receive.ensures in
    record {
      takes = record {
        judged = told.judged;
        after = record {
          count = told.after.count;
          volume = told.after.volume;
          cell = cell_grown c.args.block.cuboid s.cells c.add_box.new.cells c.add_box.ensures;
        };
      };
      state = tt;
    }
