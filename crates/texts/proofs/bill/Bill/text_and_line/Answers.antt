use Rattle.std.proofs.Common.{arith, length-append}
use Rattle.texts.specs.Lines.{text_of}
use Rattle.texts.specs.Bills.{tallies_text}
use Rattle.texts.proofs.Sheets.{tallies_few}
use Rattle.texts.proofs.bill.Bill.text_and_line.Goals as goal

pub returns-clause-fits : goal.returns-clause-fits
returns-clause-fits g c =
    let t = c.args.self.now.tallies in
    omega (arith, length-append (tallies_text t) (text_of c.args.last.now), tallies_few t, c.lend.ensures.short)
