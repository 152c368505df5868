use Rattle.lots.proofs.Cubes.{shares_a_cube}
use Rattle.lots.proofs.sharing.sharing_means_a_cube.Goals as goal

pub returns : goal.returns
returns c = shares_a_cube
