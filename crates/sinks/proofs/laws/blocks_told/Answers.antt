use Rattle.sinks.proofs.Chains.{blocks_told}
use Rattle.sinks.proofs.laws.blocks_told.Goals as goal

pub returns : goal.returns
returns g c = blocks_told g.S.Sink.edge g.S.Sink.parts
