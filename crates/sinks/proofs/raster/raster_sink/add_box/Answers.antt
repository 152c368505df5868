use Rattle.std.proofs.Common.{◌≡◌, true, arith, rules}
use Rattle.geometry.specs.declared.cell.Cell.{Cell}
use Rattle.sinks.specs.Meaning.{in_grid}
use Rattle.sinks.proofs.Shares.{shared_small}
use Rattle.sinks.proofs.Places.{before, beyond, share_x, share_y, share_z, shared_none, shared_skip, shared_more}
use Rattle.sinks.proofs.raster.raster_sink.add_box.Goals as goal

pub loop-k-init : goal.loop-k-init
loop-k-init c = shared_none _ _ c.args.cuboid c.args.cells.now (λ n l h. share_z n c.args.cuboid (before _ c.args.cuboid.z (omega (arith, c.reach-low.ensures.first))))

pub loop-j-init : goal.loop-j-init
loop-j-init c =
    shared_skip 0 _ _ c.args.cuboid c.args.cells.now c.loop-k.cells (omega arith) c.loop-k.invariant
    (λ n l h. share_y n c.args.cuboid (before _ c.args.cuboid.y (omega (arith, c.reach-south.ensures.first, c.reach-south.ensures.inside.0, c.reach-south.ensures.inside.1))))

pub loop-i-init : goal.loop-i-init
loop-i-init c =
    shared_skip 0 _ _ c.args.cuboid c.args.cells.now c.loop-j.cells (omega arith) c.loop-j.invariant
    (λ n l h. share_x n c.args.cuboid (before _ c.args.cuboid.x (omega (arith, c.reach-west.ensures.first, c.reach-west.ensures.inside.0, c.reach-west.ensures.inside.1))))

pub overflow_add-cells : goal.overflow_add-cells
overflow_add-cells c =
    let p = c.place_of.result in
    let d : Cell = record { i = c.loop-i.i; j = c.loop-j.j; k = c.loop-k.k } in
    omega (arith, c.loop-i.invariant.over p (omega (arith, c.place_of.ensures.0)), c.requires.1 p (omega arith), c.shared.ensures, shared_small 1024 d c.args.cuboid)

pub loop-i-preserved : goal.loop-i-preserved
loop-i-preserved c =
    let d : Cell = record { i = c.loop-i.i; j = c.loop-j.j; k = c.loop-k.k } in
    let within : in_grid 1024 d ≡ true = search rules in
    shared_more c.args.cuboid c.args.cells.now c.loop-i.cells d _ _ _ _ within c.place_of.ensures.0 c.shared.ensures
    (omega (arith, c.place_of.ensures.0)) (omega (arith, c.place_of.ensures.0)) (omega (arith, c.place_of.ensures.1, c.loop-i.auto.cells, c.requires.0)) c.loop-i.invariant

pub loop-j-preserved : goal.loop-j-preserved
loop-j-preserved c =
    shared_skip 0 _ _ c.args.cuboid c.args.cells.now c.loop-i.cells (omega (arith, c.reach-west.ensures.inside.1)) c.loop-i.invariant
    (λ n l h. share_x n c.args.cuboid (beyond _ c.args.cuboid.x (omega (arith, c.reach-west.ensures.after, c.loop-i-test.false))))

pub loop-k-preserved : goal.loop-k-preserved
loop-k-preserved c =
    shared_skip 0 _ _ c.args.cuboid c.args.cells.now c.loop-j.cells (omega (arith, c.reach-south.ensures.inside.1)) c.loop-j.invariant
    (λ n l h. share_y n c.args.cuboid (beyond _ c.args.cuboid.y (omega (arith, c.reach-south.ensures.after, c.loop-j-test.false))))

pub returns : goal.returns
returns c =
    shared_skip 0 _ 4096 c.args.cuboid c.args.cells.now c.loop-k.cells (omega (arith, c.reach-low.ensures.inside.1)) c.loop-k.invariant
    (λ n l h. share_z n c.args.cuboid (beyond _ c.args.cuboid.z (omega (arith, c.reach-low.ensures.after, c.loop-k-test.false))))
