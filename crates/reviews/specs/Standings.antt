-- How an account stands.
use Rattle.std.specs.Prelude.{ℕ, ◌+◌, cond, List, ℤ, pos, ◌+ℤ◌, ◌==◌}
use Rattle.terms.specs.declared.lot.Lot.{Lot}
use Rattle.terms.specs.Margins.{requirement}
use Rattle.book.specs.Meaning.{Meaning}
use Rattle.lots.specs.declared.holding.Holding.{Holding}
use Rattle.lots.specs.Worth.{holding_of}
use Rattle.orders.specs.declared.order.Order.{Order}
use Rattle.orders.specs.Margins.{margin_of}
use Rattle.accounts.specs.declared.standing.Standing.{Standing}

-- by its balance, what its lots come to, and the margins of its orders; account 2 needs no margin
abbrev pub standing_by : (balance : ℤ) (percent spot account : ℕ) → Holding → (ordered : ℕ) → Standing
standing_by balance percent spot a h ordered = record {
  equity = balance +ℤ h.worth;
  requirement = cond (a == 2) 0 (requirement percent spot h.units);
  margin = cond (a == 2) 0 (requirement percent spot h.units + ordered);
  units = h.units;
}

-- over a book, lots and orders; mark is the last CFD price, or spot if there is none
abbrev pub standing_of : Meaning → (percent spot mark : ℕ) → List Lot → List Order → ℕ → Standing
standing_of m percent spot mark lots orders a = standing_by (m.balance a) percent spot a (holding_of a (pos mark) lots) (margin_of a percent mark orders)
