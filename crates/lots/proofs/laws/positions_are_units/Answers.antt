use Rattle.lots.proofs.Sums.{position_is, all_few}
use Rattle.lots.proofs.laws.positions_are_units.Goals as goal

pub returns : goal.returns
returns c = record { units = position_is; small = all_few }
