-- Sides and outcomes, and the bytes that stand for them.
use Rattle.std.specs.Prelude.{ℕ, Bool, true, false, cond, Ok, Err, Result, ◌==◌}
use Rattle.terms.specs.declared.refusal.Refusal.{Refusal}
use Rattle.terms.specs.declared.refusal.Refusal.TheVariants.{CodeOutOfRange}
use Rattle.terms.specs.declared.side.Side.{Side}
use Rattle.terms.specs.declared.side.Side.TheVariants.{Buy, Sell}
use Rattle.terms.specs.declared.outcome.Outcome.{Outcome}
use Rattle.terms.specs.declared.outcome.Outcome.TheVariants.{HandedBack, Sent}

-- what the bytes 0 and 1 stand for; any other is refused
abbrev pub coded : {X : Type 0} → X → X → ℕ → Result X Refusal
coded x y b = cond (b == 0) (Ok x) (cond (b == 1) (Ok y) (Err CodeOutOfRange))

abbrev pub same_side : Side → Side → Bool
same_side Buy Buy = true
same_side Buy Sell = false
same_side Sell Buy = false
same_side Sell Sell = true

abbrev pub side_byte : Side → ℕ
side_byte Buy = 0
side_byte Sell = 1

-- the side of a byte that stands for one
abbrev pub side_of : ℕ → Side
side_of b = cond (b == 0) Buy Sell

abbrev pub side_read : ℕ → Result Side Refusal
side_read = coded Buy Sell

abbrev pub outcome_byte : Outcome → ℕ
outcome_byte HandedBack = 0
outcome_byte Sent = 1

abbrev pub outcome_read : ℕ → Result Outcome Refusal
outcome_read = coded HandedBack Sent
