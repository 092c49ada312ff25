use Rattle.rules.proofs.Settling.{again, calls_again, left_alone}
use Rattle.rules.proofs.laws.reviews_settle_the_ledger.Goals as goal

pub returns : goal.returns
returns c = record { again = again; calls = calls_again; rest = left_alone }
