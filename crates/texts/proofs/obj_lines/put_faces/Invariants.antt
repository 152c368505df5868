use Rattle.texts.specs.Lines.{up_to}
use Rattle.texts.specs.Drawings.{face_line}
use Rattle.texts.proofs.obj_lines.put_faces.Given as goal

abbrev pub invariant-loop-face : goal.invariant-loop-face
invariant-loop-face g l = g.W.Out.wrote l.initial.out (up_to (face_line l.drawn) l.face-index) l.out
