-- Orders in a list.
use Rattle.std.specs.Prelude.{ℕ, ◌+◌, Bool, false, cond, not, ◌&&◌, List, [], ◌∷◌, Some, None, Option, ◌==◌, nat_le, slice_index_or}
use Rattle.slots.specs.Every.{every}
use Rattle.terms.specs.Ranges.{between, price_max, position_max}
use Rattle.orders.specs.declared.order.Order.{Order}

-- what is true of every order that is held; only a cut order can exceed the quantity of an order that is entered
abbrev pub lawful_order : Order → Bool
lawful_order o = between 2 255 o.account && (nat_le o.price price_max && between 1 position_max o.quantity)

abbrev pub lawful_orders : List Order → Bool
lawful_orders = every lawful_order

-- the place, counted from i, of the first order with a number
unfoldable pub place_from : ℕ → ℕ → List Order → Option ℕ
place_from i n [] = None
place_from i n (o ∷ os) = cond (o.number == n) (Some i) (place_from (i + 1) n os)

abbrev pub place_of : ℕ → List Order → Option ℕ
place_of = place_from 0

-- an order whose account is not marked
abbrev pub spared : List Bool → Order → Bool
spared marked o = not (slice_index_or marked o.account false)
