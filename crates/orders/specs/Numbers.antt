-- The numbers of orders.
use Rattle.std.specs.Prelude.{ℕ, Bool, true, false, cond, not, ◌&&◌, List, [], ◌∷◌, Some, None, filter, Option, ◌==◌, nat_le, nat_lt}
use Rattle.orders.specs.declared.order.Order.{Order}

-- the order with a number, if it is held
unfoldable pub held : ℕ → List Order → Option Order
held n [] = None
held n (o ∷ os) = cond (o.number == n) (Some o) (held n os)

-- there is one, and it is no cut order
abbrev pub is_plain : Option Order → Bool
is_plain None = false
is_plain (Some o) = not o.cut

-- all orders but the one with a number
abbrev pub without : ℕ → List Order → List Order
without n = filter (λ (o : Order). not (o.number == n))

-- each number is above the one before it, the first above low, and none is above high
unfoldable pub rising : (low high : ℕ) → List Order → Bool
rising low high [] = true
rising low high (o ∷ os) = (nat_lt low o.number && nat_le o.number high) && rising o.number high os
