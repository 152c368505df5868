use Rattle.sinks.specs.Tallied.{count_of, volume_held}
use Rattle.texts.specs.Bills.{material_line}
use Rattle.texts.proofs.Outs.{out_first, out_next, out_room}
use Rattle.texts.proofs.bill.put_materials.Goals as goal

pub loop-m-init : goal.loop-m-init
loop-m-init g c = let t = c.args.tallies.now in out_first g.W.Out.laws (material_line (count_of t) (volume_held t)) c.args.out.now _ c.requires

pub put_material-requires : goal.put_material-requires
put_material-requires g c =
    let t = c.args.tallies.now in
    out_room g.W.Out.laws (material_line (count_of t) (volume_held t)) c.loop-m.m 16 c.args.out.now c.loop-m.out c.loop-m-test.true c.requires c.loop-m.invariant

pub loop-m-preserved : goal.loop-m-preserved
loop-m-preserved g c =
    let t = c.args.tallies.now in
    out_next g.W.Out.laws (material_line (count_of t) (volume_held t)) c.loop-m.m c.args.out.now c.loop-m.out c.put_material.new.out c.loop-m.invariant c.put_material.ensures
