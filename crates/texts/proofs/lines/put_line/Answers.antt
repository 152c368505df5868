use Rattle.std.proofs.Common.{length, ◌++◌, decimal, refl, ap, arith}
use Rattle.std.proofs.lemmas.List.{length-append}
use Rattle.texts.specs.Lines.{spaced, line_text}
use Rattle.texts.proofs.Outs.{out_is}
use Rattle.texts.proofs.Texts.{length_line, line_is}
use Rattle.texts.proofs.lines.put_line.Goals as goal

pub put-requires : goal.put-requires
put-requires g c =
    let t = line_text c.args.kind c.args.first c.args.others.now in
    g.W.Out.laws.shorter c.args.out.now c.start_of.result.now t (omega (arith, length_line c.args.kind c.args.first c.args.others.now, ap length c.start_of.ensures)) c.requires

pub put_number-requires : goal.put_number-requires
put_number-requires g c =
    let t = line_text c.args.kind c.args.first c.args.others.now in
    g.W.Out.laws.rest c.args.out.now c.put.new.self c.start_of.result.now (decimal c.args.first) t
    (omega (arith, length_line c.args.kind c.args.first c.args.others.now, ap length c.start_of.ensures)) c.requires c.put.ensures

pub put_spaced-requires : goal.put_spaced-requires
put_spaced-requires g c =
    let t = line_text c.args.kind c.args.first c.args.others.now in
    let s = c.start_of.result.now in
    let n = decimal c.args.first in
    let two = g.W.Out.laws.joined c.args.out.now c.put.new.self c.put_number.new.out s n c.put.ensures c.put_number.ensures in
    g.W.Out.laws.rest c.args.out.now c.put_number.new.out (s ++ n) (spaced c.args.others.now) t
    (omega (arith, length-append s n, length_line c.args.kind c.args.first c.args.others.now, ap length c.start_of.ensures)) c.requires two

pub put-requires-2 : goal.put-requires-2
put-requires-2 g c =
    let t = line_text c.args.kind c.args.first c.args.others.now in
    let s = c.start_of.result.now in
    let n = decimal c.args.first in
    let m = spaced c.args.others.now in
    let two = g.W.Out.laws.joined c.args.out.now c.put.new.self c.put_number.new.out s n c.put.ensures c.put_number.ensures in
    let three = g.W.Out.laws.joined c.args.out.now c.put_number.new.out c.put_spaced.new.out (s ++ n) m two c.put_spaced.ensures in
    g.W.Out.laws.rest c.args.out.now c.put_spaced.new.out (s ++ n ++ m) c.end_of.result.now t
    (omega (
      arith,
      length-append (s ++ n) m,
      length-append s n,
      length_line c.args.kind c.args.first c.args.others.now,
      ap length c.start_of.ensures,
      ap length c.end_of.ensures,
    )) c.requires three

pub returns : goal.returns
returns g c =
    let s = c.start_of.result.now in
    let n = decimal c.args.first in
    let m = spaced c.args.others.now in
    let two = g.W.Out.laws.joined c.args.out.now c.put.new.self c.put_number.new.out s n c.put.ensures c.put_number.ensures in
    let three = g.W.Out.laws.joined c.args.out.now c.put_number.new.out c.put_spaced.new.out (s ++ n) m two c.put_spaced.ensures in
    out_is g.W.Out.laws (line_is c.args.kind c.args.first c.start_of.ensures refl c.end_of.ensures)
    (g.W.Out.laws.joined c.args.out.now c.put_spaced.new.out c.put-2.new.self (s ++ n ++ m) c.end_of.result.now three c.put-2.ensures)
