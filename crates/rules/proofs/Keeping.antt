-- Orders of which some are kept: which numbers are held, what an account has ordered, and which orders are its own.
use Rattle.std.proofs.Common.{◌≡◌, ℕ, ◌<◌, ◌≤◌, Bool, true, List, [], ◌∷◌, ◌++◌, Some, None, filter, refl, arith}
use Rattle.std.proofs.lemmas.Grind.{common_steps}
use Rattle.std.proofs.lemmas.Bool.Decides.{nat_tests}
use Rattle.terms.specs.declared.side.Side.{Side}
use Rattle.orders.specs.declared.order.Order.{Order}
use Rattle.orders.specs.Margins.{ordered_of}
use Rattle.orders.specs.Numbers.{held, rising}
use Rattle.orders.proofs.Numbers.{rises}
use Rattle.rules.specs.Laws.{orders_of}

-- a number above all is not held
pub none_above : (k low high : ℕ) (os : List Order) → high < k → rising low high os ≡ true → held k os ≡ None
unfolding held
none_above k low high [] h s = refl
none_above k low high (o ∷ os) h s = let r = rises low high o os s in grind (arith, nat_tests, r.within, none_above k o.number high os h r.rest)

-- nor is one below all
none_below : (k low high : ℕ) (os : List Order) → k ≤ low → rising low high os ≡ true → held k os ≡ None
unfolding held
none_below k low high [] h s = refl
none_below k low high (o ∷ os) h s = let r = rises low high o os s in grind (arith, nat_tests, r.above, none_below k o.number high os (omega (arith, r.above)) r.rest)

-- a number that was not held is, once an order behind the others has it
pub held_push : (k : ℕ) (os : List Order) (o : Order) → held k os ≡ None → o.number ≡ k → held k (os ++ o ∷ []) ≡ Some o
unfolding held
held_push k [] o n e = grind (arith, nat_tests)
held_push k (x ∷ os) o n e = let rest = held_push k os o in grind (arith, nat_tests, rest)

module _ (keeps : Order → Bool) where
  -- what is not held is not held of what is kept
  pub none_kept : (k : ℕ) (os : List Order) → held k os ≡ None → held k (filter keeps os) ≡ None
  unfolding held
  none_kept k [] n = refl
  none_kept k (o ∷ os) n = let rest = none_kept k os in grind (arith, nat_tests, rest)

  -- what is held of what is kept was held
  pub held_kept : (k low high : ℕ) (os : List Order) (x : Order) → rising low high os ≡ true → held k (filter keeps os) ≡ Some x → held k os ≡ Some x
  unfolding held
  held_kept k low high [] x s h = h
  held_kept k low high (o ∷ os) x s h =
      let r = rises low high o os s in
      let none = none_kept k os in
      let below = none_below k o.number high os in
      let rest = held_kept k o.number high os x r.rest in
      grind (arith, nat_tests, r.rest, none, below, rest)

  -- no more is ordered than was
  pub ordered_kept : (a : ℕ) (side : Side) (os : List Order) → ordered_of a side (filter keeps os) ≤ ordered_of a side os
  unfolding ordered_of
  ordered_kept a side [] = omega arith
  ordered_kept a side (o ∷ os) = grind (arith, nat_tests, ordered_kept a side os)

  -- where all of an account's orders are kept, they are its orders as before
  pub all_kept : (a : ℕ) → ((o : Order) → o.account ≡ a → keeps o ≡ true) → (os : List Order) → orders_of a (filter keeps os) ≡ orders_of a os
  all_kept a all [] = refl
  all_kept a all (o ∷ os) = grind (arith, nat_tests, common_steps, all o, all_kept a all os)
