-- The bands outside which a price halts trading.
use Rattle.std.specs.Prelude.{ℕ, ◌+◌, ◌-◌, ◌*◌, Bool, false, ◌||◌, Some, None, Option, nat_lt}

-- a price lies further from a reference price than so many percent of it; the edge is inside
abbrev pub beyond : (percent reference price : ℕ) → Bool
beyond percent reference price = nat_lt (percent * reference) (100 * ((price - reference) + (reference - price)))

-- where there is no base price its test is passed over
abbrev pub beyond_base : Option ℕ → ℕ → Bool
beyond_base None price = false
beyond_base (Some base) price = beyond 15 base price

abbrev pub outside : (price : ℕ) (base : Option ℕ) (spot : ℕ) → Bool
outside price base spot = beyond_base base price || beyond 5 spot price
