use Rattle.texts.specs.Lines.{up_to}
use Rattle.texts.specs.Drawings.{vertex_line}
use Rattle.texts.proofs.obj_lines.put_vertices.Given as goal

abbrev pub invariant-loop-v : goal.invariant-loop-v
invariant-loop-v g l = g.W.Out.wrote l.initial.out (up_to (vertex_line l.cuboid) l.v) l.out
