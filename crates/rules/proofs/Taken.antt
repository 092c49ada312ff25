-- What is true of a call that was taken: no sentence applied.
use Rattle.std.proofs.Common.{◌≡◌, ℕ, true, false, is_some, arith}
use Rattle.std.proofs.lemmas.Bool.Decides.{nat_tests}
use Rattle.book.specs.Meaning.{Meaning}
use Rattle.orders.specs.declared.order.Order.{Order}
use Rattle.accounts.specs.Review.{is_open}
use Rattle.rules.specs.State.{State}
use Rattle.rules.specs.Calls.{next_order, oversized, uncovered, order_call}
use Rattle.rules.specs.Laws.{Taken}

-- of an order that was entered
pub record Admitted (o : Order) (s : State) (m : Meaning) : Type 0 where
  pub spotted : is_some s.spot ≡ true
  pub active : is_open (s.states o.account) ≡ true
  pub sized : oversized o s ≡ false
  pub covered : uncovered o s m ≡ false

pub admitted : (a b price q : ℕ) (s : State) (m : Meaning) → Taken (order_call a b price q s m) → Admitted (next_order a b price q s) s m
admitted a b price q s m h = record { spotted = grind (arith, nat_tests); active = grind (arith, nat_tests); sized = grind (arith, nat_tests); covered = grind (arith, nat_tests) }
