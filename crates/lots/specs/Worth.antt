-- Lots closed out at a price m, any whole number.
use Rattle.std.specs.Prelude.{◌≡◌, ℕ, ◌+◌, cond, List, [], ◌∷◌, ℤ, pos, ◌+ℤ◌, ◌-ℤ◌, ◌*ℤ◌, ◌==◌}
use Rattle.terms.specs.declared.lot.Lot.{Lot}
use Rattle.terms.specs.Closing.{sided}
use Rattle.lots.specs.declared.holding.Holding.{Holding}

-- what a lot gives its account
unfoldable pub worth : ℤ → Lot → ℤ
worth m l = sided l.side (pos l.quantity *ℤ (m -ℤ pos l.price)) -ℤ pos 100 *ℤ l.charge

-- over the lots of account a
unfoldable pub worth_of : ℕ → ℤ → List Lot → ℤ
worth_of a m [] = pos 0
worth_of a m (l ∷ ls) = cond (l.account == a) (worth m l) (pos 0) +ℤ worth_of a m ls

-- over all lots
unfoldable pub worth_of_all : ℤ → List Lot → ℤ
worth_of_all m [] = pos 0
worth_of_all m (l ∷ ls) = worth m l +ℤ worth_of_all m ls

-- the units of account a's lots
unfoldable pub units_of : ℕ → List Lot → ℕ
units_of a [] = 0
units_of a (l ∷ ls) = cond (l.account == a) l.quantity 0 + units_of a ls

abbrev pub no_holding : Holding
no_holding = record { worth = pos 0; units = 0 }

abbrev pub holding_of : ℕ → ℤ → List Lot → Holding
holding_of a m ls = record { worth = worth_of a m ls; units = units_of a ls }

-- a holding with one lot more
pub record Plus (h : Holding) (worth : ℤ) (units : ℕ) (r : Holding) : Type 0 where
  pub worth_is : r.worth ≡ h.worth +ℤ worth
  pub units_is : r.units ≡ h.units + units
