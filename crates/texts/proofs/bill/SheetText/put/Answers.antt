use Rattle.std.proofs.Common.{◌++◌, arith, length-append}
use Rattle.texts.specs.Lines.{lent_text}
use Rattle.texts.specs.Bills.{tallies_text}
use Rattle.texts.proofs.bill.SheetText.put.Goals as goal

pub put-requires : goal.put-requires
put-requires g c =
    let a = tallies_text c.args.self.now.tallies.now in
    let b = lent_text c.args.self.now.last in
    g.W.Out.laws.shorter c.args.out.now a (a ++ b) (omega (arith, length-append a b)) c.requires

pub put-requires-2 : goal.put-requires-2
put-requires-2 g c =
    let a = tallies_text c.args.self.now.tallies.now in
    let b = lent_text c.args.self.now.last in
    g.W.Out.laws.rest c.args.out.now c.put.new.out a b (a ++ b) (omega (arith, length-append a b)) c.requires c.put.ensures
