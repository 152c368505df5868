use Rattle.sinks.proofs.Grids.{grids_add_up}
use Rattle.sinks.proofs.laws.grids_add_up.Goals as goal

pub returns : goal.returns
returns c = grids_add_up
