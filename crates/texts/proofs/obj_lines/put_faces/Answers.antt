use Rattle.std.proofs.Common.{ℕ, List, sym, ap, slice_index_or, []}
use Rattle.texts.specs.Drawings.{numbered_face, face_line}
use Rattle.texts.proofs.Outs.{out_first, out_next, out_room, out_is, room_is}
use Rattle.texts.proofs.obj_lines.put_faces.Goals as goal

pub loop-face-init : goal.loop-face-init
loop-face-init g c = out_first g.W.Out.laws (face_line c.args.drawn) c.args.out.now _ c.requires.fits

pub put_face-requires-clause-fits : goal.put_face-requires-clause-fits
put_face-requires-clause-fits g c =
    let i = c.loop-face.face-index in
    room_is g.W.Out.laws (ap (λ (vs : List (List ℕ)). numbered_face c.args.drawn (slice_index_or vs i [])) (sym c.faces-face-items.ensures))
    (out_room g.W.Out.laws (face_line c.args.drawn) i 6 c.args.out.now c.loop-face.out c.loop-face-test.true c.requires.fits c.loop-face.invariant)

pub loop-face-preserved : goal.loop-face-preserved
loop-face-preserved g c =
    let i = c.loop-face.face-index in
    out_next g.W.Out.laws (face_line c.args.drawn) i c.args.out.now c.loop-face.out c.put_face.new.out c.loop-face.invariant
    (out_is g.W.Out.laws (ap (λ (vs : List (List ℕ)). numbered_face c.args.drawn (slice_index_or vs i [])) c.faces-face-items.ensures) c.put_face.ensures)
