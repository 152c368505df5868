use Rattle.lots.proofs.Added.{lot_taken}
use Rattle.lots.proofs.reading.add_lot.Goals as goal

pub returns-in-Some : goal.returns-in-Some
returns-in-Some c = lot_taken _ _ c.in-Some.lot _ _ _ c.in-Some.ensures.0 c.in-Some.ensures.1 c.place_lot.ensures
