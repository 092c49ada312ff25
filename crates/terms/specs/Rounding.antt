-- Division that rounds up, and numbers held within a bound. `/` rounds down, and `int_div` of the library toward nought.
use Rattle.std.specs.Prelude.{ℕ, suc, ◌+◌, ◌-◌, ◌/◌, min, ℤ, pos, negsuc, neg_ℤ}

unfoldable pub ceiling : ℕ → ℕ → ℕ
ceiling n d = (n + (d - 1)) / d

-- z, but no further from nought than bound
abbrev pub within : ℕ → ℤ → ℤ
within bound (pos n) = pos (min n bound)
within bound (negsuc n) = neg_ℤ (pos (min (suc n) bound))

-- z where it is above nought, else nought
abbrev pub above : ℤ → ℕ
above (pos n) = n
above (negsuc n) = 0
