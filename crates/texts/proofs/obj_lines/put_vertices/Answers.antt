use Rattle.texts.specs.Drawings.{vertex_line}
use Rattle.texts.proofs.Outs.{out_first, out_next, out_room}
use Rattle.texts.proofs.obj_lines.put_vertices.Goals as goal

pub loop-v-init : goal.loop-v-init
loop-v-init g c = out_first g.W.Out.laws (vertex_line c.args.cuboid) c.args.out.now _ c.requires

pub put_vertex-requires : goal.put_vertex-requires
put_vertex-requires g c = out_room g.W.Out.laws (vertex_line c.args.cuboid) c.loop-v.v 8 c.args.out.now c.loop-v.out c.loop-v-test.true c.requires c.loop-v.invariant

pub loop-v-preserved : goal.loop-v-preserved
loop-v-preserved g c = out_next g.W.Out.laws (vertex_line c.args.cuboid) c.loop-v.v c.args.out.now c.loop-v.out c.put_vertex.new.out c.loop-v.invariant c.put_vertex.ensures
