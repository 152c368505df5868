use Rattle.std.proofs.Common.{◌≡◌, ◌<◌, map, length, take, ap, ◌∙◌, arith}
use Rattle.std.proofs.lemmas.List.{length-set, take_all}
use Rattle.book_check.specs.Resolved.{meanings, target_of}
use Rattle.book_check.proofs.Resolvings.{targets_more}
use Rattle.book_check.proofs.resolving.targets.Goals as goal

pub loop-i-preserved : goal.loop-i-preserved
loop-i-preserved c =
    let h : c.loop-i.i < length c.loop-i.numbers = omega (arith, c.loop-i.invariant.0) in (
      length-set c.loop-i.numbers c.loop-i.i c.target_of.result ∙ c.loop-i.invariant.0,
      targets_more c.args.book.now c.args.kind c.args.used.now c.loop-i.numbers c.loop-i.i _ c.target_of.result c.loop-i-test.true h c.loop-i.invariant.1 (c.target_of.ensures ∙ ap target_of c.meaning.ensures),
    )

pub returns : goal.returns
returns c =
    let z : length c.args.used.now ≡ c.loop-i.i = omega arith in
    ap (λ n. take n c.loop-i.numbers) z
    ∙ c.loop-i.invariant.1
    ∙ ap (λ ns. map target_of (meanings c.args.book.now c.args.kind ns)) (take_all c.loop-i.i c.args.used.now (omega arith))
