use Rattle.std.proofs.Common.{refl}
use Rattle.texts.proofs.SiteCells.{site_none}
use Rattle.texts.proofs.drawing.ObjText.new.Goals as goal

pub returns : goal.returns
returns c = record {
  empty = record {
    count = λ m. (c.new.ensures m).0;
    volume = λ m. (c.new.ensures m).1;
    cell = site_none c.new.result (λ m. (c.new.ensures m).1);
  };
  none = refl;
  out = (refl, refl);
}
