use Rattle.derivation.proofs.Keeps.{laws_hold}
use Rattle.derivation.proofs.laws.laws_hold.Goals as goal

pub returns : goal.returns
returns c = laws_hold
