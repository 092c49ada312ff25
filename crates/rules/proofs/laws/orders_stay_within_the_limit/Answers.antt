use Rattle.rules.proofs.Limiting.{within}
use Rattle.rules.proofs.laws.orders_stay_within_the_limit.Goals as goal

pub returns : goal.returns
returns c = within
