use Rattle.rules.proofs.Surviving.{entered}
use Rattle.rules.proofs.laws.entered_orders_are_held.Goals as goal

pub returns : goal.returns
returns c = entered
