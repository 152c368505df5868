use Rattle.texts.proofs.SiteCells.{site_none}
use Rattle.texts.proofs.bill.Bill.new.Goals as goal

pub returns : goal.returns
returns c = record {
  count = λ m. (c.new.ensures m).0;
  volume = λ m. (c.new.ensures m).1;
  cell = site_none c.new.result (λ m. (c.new.ensures m).1);
}
