-- The margins of orders, and what remains of them.
use Rattle.std.specs.Prelude.{ℕ, ◌+◌, cond, ◌&&◌, List, [], ◌∷◌, ◌==◌}
use Rattle.terms.specs.declared.side.Side.{Side}
use Rattle.terms.specs.Codes.{same_side}
use Rattle.terms.specs.Margins.{requirement}
use Rattle.orders.specs.declared.order.Order.{Order}

-- at the limit, or at the mark for a market order; a cut order needs none
unfoldable pub order_margin : (percent mark : ℕ) → Order → ℕ
order_margin percent mark o = cond o.cut 0 (requirement percent (cond (o.price == 0) mark o.price) o.quantity)

-- over the orders of account a
unfoldable pub margin_of : (a percent mark : ℕ) → List Order → ℕ
margin_of a percent mark [] = 0
margin_of a percent mark (o ∷ os) = cond (o.account == a) (order_margin percent mark o) 0 + margin_of a percent mark os

-- what remains of account a's orders of side s
unfoldable pub ordered_of : ℕ → Side → List Order → ℕ
ordered_of a s [] = 0
ordered_of a s (o ∷ os) = cond (o.account == a && same_side o.side s) o.quantity 0 + ordered_of a s os
