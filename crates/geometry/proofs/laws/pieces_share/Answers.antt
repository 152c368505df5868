use Rattle.geometry.proofs.Fills.{pieces_share}
use Rattle.geometry.proofs.laws.pieces_share.Goals as goal

pub returns : goal.returns
returns c = pieces_share
