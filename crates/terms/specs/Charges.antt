-- What a lot is charged at a rollover and in a funding round, in whole yen.
use Rattle.std.specs.Prelude.{ℕ, zero, suc, ◌*◌, ◌/◌, cond, ℤ, pos, negsuc, ◌-ℤ◌, neg_ℤ, Some, None, Option, int_div, unsigned_abs}
use Rattle.terms.specs.declared.moments.Moment.{Moment}
use Rattle.terms.specs.declared.moments.Moment.TheVariants.{Funding, Deadline, Rollover}
use Rattle.terms.specs.declared.settings.Settings.{Settings}
use Rattle.terms.specs.declared.side.Side.{Side}
use Rattle.terms.specs.declared.side.Side.TheVariants.{Buy, Sell}
use Rattle.terms.specs.Codes.{same_side}
use Rattle.terms.specs.Rounding.{ceiling, within}

-- points of a day: rate in millionths, rounded down
unfoldable pub points : (rate spot quantity : ℕ) → ℕ
points rate spot quantity = spot * quantity * rate / 100000000

-- the funding difference in yen a BTC: divided, truncated toward nought, then held within ± cap millionths of spot
unfoldable pub difference : (divisor cap last spot : ℕ) → ℤ
difference divisor cap last spot = within (spot * cap / 1000000) (int_div (pos last -ℤ pos spot) (pos divisor))

-- who pays: longs where the difference is above nought, shorts where it is below, nobody at nought
abbrev pub payer : ℤ → Option Side
payer (pos zero) = None
payer (pos (suc n)) = Some Buy
payer (negsuc n) = Some Sell

-- what a payer pays, rounded up, and what a receiver gets, rounded down
unfoldable pub paid : ℤ → ℕ → ℕ
paid d quantity = ceiling (unsigned_abs d * quantity) 100

unfoldable pub received : ℤ → ℕ → ℕ
received d quantity = unsigned_abs d * quantity / 100

-- what a round adds to a lot's charge where that side pays: a receiver's charge falls
abbrev pub funding_if : Option Side → ℤ → Side → ℕ → ℤ
funding_if None d s quantity = pos 0
funding_if (Some p) d s quantity = cond (same_side p s) (pos (paid d quantity)) (neg_ℤ (pos (received d quantity)))

abbrev pub funding : ℤ → Side → ℕ → ℤ
funding d s quantity = funding_if (payer d) d s quantity

-- what a due moment adds to the charge of a lot, at the latest prices
abbrev pub added : Settings → (spot last : ℕ) → Moment → Side → ℕ → ℤ
added set spot last Rollover s quantity = pos (points set.points_rate spot quantity)
added set spot last Deadline s quantity = pos 0
added set spot last Funding s quantity = funding (difference set.funding_divisor set.funding_cap last spot) s quantity
