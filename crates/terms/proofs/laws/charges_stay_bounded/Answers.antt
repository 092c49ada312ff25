use Rattle.terms.proofs.Limits.{moments_keep, closing_keeps, settlements_lawful}
use Rattle.terms.proofs.laws.charges_stay_bounded.Goals as goal

pub returns : goal.returns
returns c = record { moments = moments_keep; closing = closing_keeps; settlements = settlements_lawful }
