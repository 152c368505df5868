use Rattle.sinks.proofs.Chains.{cells_add_up}
use Rattle.sinks.proofs.laws.cells_add_up.Goals as goal

pub returns : goal.returns
returns g c = cells_add_up g.S.Sink.edge g.S.Sink.parts g.met.S.Sink.power
