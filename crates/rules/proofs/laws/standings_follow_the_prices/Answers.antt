use Rattle.rules.proofs.Pricing.{by_the_prices}
use Rattle.rules.proofs.laws.standings_follow_the_prices.Goals as goal

pub returns : goal.returns
returns c = by_the_prices
