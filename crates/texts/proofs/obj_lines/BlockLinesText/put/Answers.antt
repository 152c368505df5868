use Rattle.std.proofs.Common.{◌++◌, [], sym, arith, length-append}
use Rattle.texts.specs.declared.line.LineKind.TheVariants.{Group}
use Rattle.texts.specs.Lines.{line_text, up_to}
use Rattle.texts.specs.Drawings.{vertex_line, face_line, block_text}
use Rattle.texts.proofs.Outs.{out_is, out_none}
use Rattle.texts.proofs.Sheets.{block_void, block_drawn, length_block}
use Rattle.texts.proofs.obj_lines.BlockLinesText.put.Goals as goal

pub put_line-requires : goal.put_line-requires
put_line-requires g c =
    let s = c.args.self.now in
    g.W.Out.laws.shorter c.args.out.now (line_text Group s.block.material []) (block_text s.drawn s.block) (omega (arith, length_block s.drawn s.block (λ e. absurd (omega (arith, c.if-block-gt0.true, e))))) c.requires

pub put_vertices-requires : goal.put_vertices-requires
put_vertices-requires g c =
    let s = c.args.self.now in
    g.W.Out.laws.rest c.args.out.now c.put_line.new.out (line_text Group s.block.material []) (up_to (vertex_line s.block.cuboid) 8) (block_text s.drawn s.block)
    (omega (arith, length_block s.drawn s.block (λ e. absurd (omega (arith, c.if-block-gt0.true, e))))) c.requires c.put_line.ensures

pub put_faces-requires-clause-fits : goal.put_faces-requires-clause-fits
put_faces-requires-clause-fits g c =
    let s = c.args.self.now in
    let u = line_text Group s.block.material [] in
    let v = up_to (vertex_line s.block.cuboid) 8 in
    g.W.Out.laws.rest c.args.out.now c.put_vertices.new.out (u ++ v) (up_to (face_line s.drawn) 6) (block_text s.drawn s.block)
    (omega (arith, length_block s.drawn s.block (λ e. absurd (omega (arith, c.if-block-gt0.true, e))), length-append u v)) c.requires
    (g.W.Out.laws.joined c.args.out.now c.put_line.new.out c.put_vertices.new.out u v c.put_line.ensures c.put_vertices.ensures)

pub returns-then-block-gt0 : goal.returns-then-block-gt0
returns-then-block-gt0 g c =
    let s = c.args.self.now in
    let u = line_text Group s.block.material [] in
    let v = up_to (vertex_line s.block.cuboid) 8 in
    let two = g.W.Out.laws.joined c.args.out.now c.put_line.new.out c.put_vertices.new.out u v c.put_line.ensures c.put_vertices.ensures in
    out_is g.W.Out.laws (sym (block_drawn s.drawn s.block (λ e. absurd (omega (arith, c.if-block-gt0.true, e)))))
    (g.W.Out.laws.joined c.args.out.now c.put_vertices.new.out c.put_faces.new.out (u ++ v) (up_to (face_line s.drawn) 6) two c.put_faces.ensures)

pub returns-else-block-gt0 : goal.returns-else-block-gt0
returns-else-block-gt0 g c =
    let s = c.args.self.now in
    out_is g.W.Out.laws (sym (block_void s.drawn s.block (omega (arith, c.if-block-gt0.false)))) (out_none g.W.Out.laws c.args.out.now _ c.requires)
