use Rattle.build.proofs.Histories.{build_laws}
use Rattle.build.proofs.laws.laws_hold.Goals as goal

pub returns : goal.returns
returns g c = build_laws g.S.Sink.edge g.S.Sink.parts g.S.Sink.took g.S.Sink.kept g.S.Sink.text
