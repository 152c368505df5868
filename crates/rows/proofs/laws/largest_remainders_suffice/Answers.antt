use Rattle.rows.proofs.Remainders.{any_order, remainders_suffice}
use Rattle.rows.proofs.laws.largest_remainders_suffice.Goals as goal

pub returns : goal.returns
returns c = record { orders = any_order; lengths = remainders_suffice }
