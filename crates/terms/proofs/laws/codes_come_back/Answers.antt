use Rattle.std.proofs.Common.{◌≡◌, Ok, refl}
use Rattle.terms.specs.declared.side.Side.{Side}
use Rattle.terms.specs.declared.side.Side.TheVariants.{Buy, Sell}
use Rattle.terms.specs.declared.outcome.Outcome.{Outcome}
use Rattle.terms.specs.declared.outcome.Outcome.TheVariants.{HandedBack, Sent}
use Rattle.terms.specs.Codes.{side_byte, side_read, outcome_byte, outcome_read}
use Rattle.terms.proofs.laws.codes_come_back.Goals as goal

side : (s : Side) → side_read (side_byte s) ≡ Ok s
side Buy = refl
side Sell = refl

outcome : (o : Outcome) → outcome_read (outcome_byte o) ≡ Ok o
outcome HandedBack = refl
outcome Sent = refl

pub returns : goal.returns
returns c = record { sides = side; outcomes = outcome }
