use Rattle.sinks.proofs.Chains.{sinks_agree}
use Rattle.sinks.proofs.laws.sinks_agree.Goals as goal

pub returns : goal.returns
returns g c = sinks_agree g.S.Sink.edge g.S.Sink.parts g.T.Sink.edge g.T.Sink.parts
