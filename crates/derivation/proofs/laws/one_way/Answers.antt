use Rattle.derivation.proofs.Once.{one_way}
use Rattle.derivation.proofs.laws.one_way.Goals as goal

pub returns : goal.returns
returns c = one_way
