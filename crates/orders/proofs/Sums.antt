-- What sums over lawful orders come to, and how large they can be.
use Rattle.std.proofs.Common.{◌≡◌, ℕ, ◌+◌, ◌*◌, ◌^◌, ◌<◌, ◌≤◌, true, cond, ◌&&◌, eqb, nat_le, List, [], ◌∷◌, ◌++◌, length, refl, arith}
use Rattle.std.specs.List.{FoldsTo}
use Rattle.std.proofs.lemmas.Bool.Decides.{nat_tests}
use Rattle.terms.specs.declared.side.Side.{Side}
use Rattle.terms.specs.Codes.{same_side}
use Rattle.sums.specs.Sums.{of, units, AtMost}
use Rattle.sums.proofs.Sums.{AddsUp, sum_is, sum_push, sum_small, folds_is, every_if, units_at_most}
pub use Rattle.sums.proofs.Sums.{cond_small}
use Rattle.orders.specs.declared.order.Order.{Order}
use Rattle.orders.specs.Margins.{order_margin, margin_of, ordered_of}
use Rattle.orders.specs.Orders.{lawful_order, lawful_orders}
use Rattle.orders.proofs.Lawful.{lawful, margin_small}

ordered_adds : (a : ℕ) (s : Side) → AddsUp (ordered_of a s) (λ o. eqb o.account a && same_side o.side s) (λ o. o.quantity)
unfolding ordered_of
ordered_adds a s = record { none = refl; more = λ o os. refl }

margin_adds : (a p k : ℕ) → AddsUp (margin_of a p k) (λ o. eqb o.account a) (order_margin p k)
unfolding margin_of
margin_adds a p k = record { none = refl; more = λ o os. refl }

pub ordered_is : (a : ℕ) (s : Side) (os : List Order) → units (λ o. o.account) (λ o. o.side) (λ o. o.quantity) a s os ≡ ordered_of a s os
ordered_is a s = sum_is (ordered_adds a s)

-- as for lots, over the test of an order: in common would be `every_if` and `units_at_most`, which both cite
pub all_few : (os : List Order) → lawful_orders os ≡ true → AtMost (λ o. o.quantity) 50000 os
all_few = every_if lawful_order (λ (o : Order). nat_le o.quantity 50000) (λ o h. let few = (lawful o h).few in grind (arith, nat_tests, few))

pub units_fit : (a : ℕ) (s : Side) (os : List Order) → lawful_orders os ≡ true → length os ≤ 4096 → units (λ o. o.account) (λ o. o.side) (λ o. o.quantity) a s os < 2 ^ 32
units_fit a s os h few = omega (arith, units_at_most (λ o. o.account) (λ o. o.side) (λ o. o.quantity) a s 50000 os (all_few os h))

pub ordered_push : (a : ℕ) (s : Side) (os : List Order) (o : Order) → ordered_of a s (os ++ o ∷ []) ≡ ordered_of a s os + cond (eqb o.account a && same_side o.side s) o.quantity 0
ordered_push a s = sum_push (ordered_adds a s)

-- an order's margin more
abbrev pub Adds : (p k : ℕ) → ℕ → Order → ℕ → Type 0
Adds p k n o m = m ≡ n + order_margin p k o

-- what the orders of account a come to, added one at a time
pub margin_is : (a p k : ℕ) (os : List Order) (n : ℕ) → FoldsTo (Adds p k) 0 (of (λ o. o.account) a os) n → n ≡ margin_of a p k os
margin_is a p k os n e = omega (arith, folds_is (margin_adds a p k) os 0 n e)

pub margin_of_small : (a p k : ℕ) → p ≤ 100 → k ≤ 100000000 → (os : List Order) → lawful_orders os ≡ true → margin_of a p k os ≤ 50000000000 * length os
margin_of_small a p k hp hk = sum_small (margin_adds a p k) lawful_order 50000000000 (λ o h. margin_small p k o hp hk h)

pub margin_push : (a p k : ℕ) (os : List Order) (o : Order) → margin_of a p k (os ++ o ∷ []) ≡ margin_of a p k os + cond (eqb o.account a) (order_margin p k o) 0
margin_push a p k = sum_push (margin_adds a p k)
