use Rattle.std.proofs.Common.{◌∷◌, [], ◌++◌, ◌+◌, take, get_or, decimal, sym, arith}
use Rattle.std.proofs.lemmas.List.{length-append}
use Rattle.texts.specs.Lines.{spaced}
use Rattle.texts.proofs.Outs.{out_is, out_none}
use Rattle.texts.proofs.Texts.{spaced_more, length_spaced_more, spaced_front}
use Rattle.texts.proofs.lines.put_spaced.Goals as goal

pub loop-n-init : goal.loop-n-init
loop-n-init g c = out_none g.W.Out.laws c.args.out.now (spaced c.args.numbers.now) c.requires

pub put-requires : goal.put-requires
put-requires g c =
    let ns = c.args.numbers.now in
    let i = c.loop-n.n-index in
    g.W.Out.laws.rest c.args.out.now c.loop-n.out (spaced (take i ns)) (32 ∷ []) (spaced ns)
    (omega (arith, length_spaced_more ns i c.loop-n-test.true, spaced_front (i + 1) ns)) c.requires c.loop-n.invariant

pub put_number-requires : goal.put_number-requires
put_number-requires g c =
    let ns = c.args.numbers.now in
    let i = c.loop-n.n-index in
    let spaces = g.W.Out.laws.joined c.args.out.now c.loop-n.out c.put.new.self (spaced (take i ns)) (32 ∷ []) c.loop-n.invariant c.put.ensures in
    g.W.Out.laws.rest c.args.out.now c.put.new.self (spaced (take i ns) ++ 32 ∷ []) (decimal (get_or ns i 0)) (spaced ns)
    (omega (arith, length-append (spaced (take i ns)) (32 ∷ []), length_spaced_more ns i c.loop-n-test.true, spaced_front (i + 1) ns)) c.requires spaces

pub loop-n-preserved : goal.loop-n-preserved
loop-n-preserved g c =
    let ns = c.args.numbers.now in
    let i = c.loop-n.n-index in
    let one = g.W.Out.laws.joined c.loop-n.out c.put.new.self c.put_number.new.out (32 ∷ []) (decimal (get_or ns i 0)) c.put.ensures c.put_number.ensures in
    out_is g.W.Out.laws (sym (spaced_more ns i c.loop-n-test.true))
    (g.W.Out.laws.joined c.args.out.now c.loop-n.out c.put_number.new.out (spaced (take i ns)) (32 ∷ decimal (get_or ns i 0)) c.loop-n.invariant one)
