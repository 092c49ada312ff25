-- Margins and the tests of them. Equity is in sen, a margin in yen.
use Rattle.std.specs.Prelude.{ℕ, ◌*◌, Bool, ℤ, pos, ◌-ℤ◌, int_le, int_lt}
use Rattle.terms.specs.Rounding.{ceiling, above}

-- the margin of a position at spot, or of an order at its price: rounded up
unfoldable pub requirement : (percent price quantity : ℕ) → ℕ
requirement percent price quantity = ceiling (price * quantity * percent) 10000

-- equity is below 100 % of the margin
abbrev pub short_of : ℤ → ℕ → Bool
short_of equity margin = int_lt equity (pos (100 * margin))

-- equity is at or below 50 % of the requirement
abbrev pub at_cut_level : ℤ → ℕ → Bool
at_cut_level equity margin = int_le equity (pos (50 * margin))

-- the yen that are missing to 100 %, rounded up
unfoldable pub shortfall : ℤ → ℕ → ℕ
shortfall equity margin = ceiling (above (pos (100 * margin) -ℤ equity)) 100
