-- The place of an order, as the library finds it.
use Rattle.std.proofs.Common.{◌≡◌, ℕ, ◌+◌, cond, eqb, List, [], ◌∷◌, Some, Option, refl, ap}
use Rattle.std.specs.List.{position_from}
use Rattle.orders.specs.declared.order.Order.{Order}
use Rattle.orders.specs.Orders.{place_from}

pub place_is : (n i : ℕ) (os : List Order) → position_from (λ (o : Order). eqb o.number n) i os ≡ place_from i n os
unfolding place_from
place_is n i [] = refl
place_is n i (o ∷ os) = ap (λ (r : Option ℕ). cond (eqb o.number n) (Some i) r) (place_is n (i + 1) os)
