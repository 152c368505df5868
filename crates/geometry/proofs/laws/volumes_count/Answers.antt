use Rattle.geometry.proofs.Counting.{volumes_count}
use Rattle.geometry.proofs.laws.volumes_count.Goals as goal

pub returns : goal.returns
returns c = volumes_count
