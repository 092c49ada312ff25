-- What an account may withdraw.
use Rattle.std.specs.Prelude.{ℕ, ◌*◌, Bool, ◌||◌, ℤ, pos, ◌-ℤ◌, int_lt}
use Rattle.accounts.specs.declared.standing.Standing.{Standing}

-- so many sen are more than the balance, or more than equity leaves above 100 % of the margin
abbrev pub exceeds : (sen : ℕ) (balance : ℤ) → Standing → Bool
exceeds sen balance s = int_lt balance (pos sen) || int_lt (s.equity -ℤ pos (100 * s.margin)) (pos sen)
