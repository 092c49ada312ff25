use Rattle.rules.proofs.Numbering.{calls, next, apart}
use Rattle.rules.proofs.laws.order_numbers_rise.Goals as goal

pub returns : goal.returns
returns c = record { calls = calls; next = next; apart = apart }
