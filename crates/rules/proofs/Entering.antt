-- What is asked of an order before it is entered.
use Rattle.std.proofs.Common.{◌≡◌, ℕ, ◌<◌, ◌≤◌, true, false, List, [], ◌∷◌, ◌++◌, length, is_some, None, arith}
use Rattle.std.proofs.lemmas.Bool.Decides.{nat_tests}
use Rattle.std.proofs.lemmas.Grind.{common_steps}
use Rattle.terms.specs.Ranges.{order_number_max}
use Rattle.terms.specs.Refusals.{first}
use Rattle.terms.specs.declared.side.Side.{Side}
use Rattle.book.specs.Meaning.{Meaning}
use Rattle.orders.specs.declared.order.Order.{Order}
use Rattle.orders.specs.Margins.{order_margin, margin_of}
use Rattle.orders.specs.Orders.{lawful_order}
use Rattle.orders.proofs.Sums.{margin_push}
use Rattle.rules.specs.State.{State}
use Rattle.rules.specs.Calls.{plain_order, order_forms, order_sentences}

-- an order needs its margin whatever its number
pub margin_any : (a p k : ℕ) (os : List Order) (n : ℕ) (o : Order) → o.cut ≡ false → margin_of a p k (os ++ plain_order n o.account o.side o.price o.quantity ∷ []) ≡ margin_of a p k (os ++ o ∷ [])
unfolding order_margin
margin_any a p k os n o plain = grind (arith, common_steps, margin_push a p k os o, margin_push a p k os (plain_order n o.account o.side o.price o.quantity))

-- an order that is admitted comes after a spot price, and finds a slot and a number
pub admitted_spot : (o : Order) (s : State) (m : Meaning) → first (order_sentences o s m) ≡ None → is_some s.spot ≡ true
admitted_spot o s m h = grind (arith, nat_tests)

pub admitted_room : (o : Order) (s : State) (m : Meaning) → first (order_sentences o s m) ≡ None → (length s.orders < s.order_slots) × (s.issued ≡ order_number_max → ⊥)
admitted_room o s m h = (grind (arith, nat_tests), grind (arith, nat_tests))

-- an order of a lawful form is lawful
pub form_lawful : (n a b price q : ℕ) (side : Side) → a ≤ 255 → first (order_forms a b price q) ≡ None → lawful_order (plain_order n a side price q) ≡ true
form_lawful n a b price q side top h = grind (arith, nat_tests)
