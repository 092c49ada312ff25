-- What each call does: when it is refused, what it answers, and what ledger and book are after it.
use Rattle.std.specs.Prelude.{ℕ, ◌+◌, ◌*◌, Bool, false, not, ◌&&◌, ◌||◌, List, [], ◌∷◌, ◌++◌, length, is_some, Option, ◌==◌, nat_eq, nat_le, nat_lt}
use Rattle.terms.specs.declared.refusal.Refusal.{Refusal}
use Rattle.terms.specs.declared.refusal.Refusal.TheVariants.{AccountOutOfRange, CodeOutOfRange, PriceOutOfRange, QuantityOutOfRange, PaymentOutOfRange, NoSpotPrice, OrderNotHeld, WrongAccountState, PositionTooLarge, MarginTooSmall, NoSlotLeft, NoEntryLeft}
use Rattle.terms.specs.declared.side.Side.{Side}
use Rattle.terms.specs.Codes.{side_of}
use Rattle.terms.specs.Margins.{short_of}
use Rattle.terms.specs.Ranges.{between, bank, price_max, payment_max, order_quantity_max, position_max, order_number_max}
use Rattle.terms.specs.Refusals.{Sentence, ◌gives◌, first}
use Rattle.book.specs.Meaning.{Meaning, entered}
use Rattle.book.specs.Deposits.{payment_sentences, deposit_refusal}
use Rattle.lots.specs.Positions.{position_of}
use Rattle.orders.specs.declared.order.Order.{Order}
use Rattle.orders.specs.Margins.{ordered_of}
use Rattle.orders.specs.Numbers.{held, is_plain, without}
use Rattle.accounts.specs.Review.{is_open, is_sound}
use Rattle.accounts.specs.Withdrawals.{exceeds}
use Rattle.rules.specs.State.{State, with_spot, with_order, with_orders}
use Rattle.rules.specs.Valuation.{standing, reviewed, call_cleared}

-- the refusal of the first sentence that applies, if one does; and where none does, the answer, the ledger and the book after the call
pub record Effect (A : Type 0) : Type 0 where
  pub refusal : Option Refusal
  pub answer : A
  pub state : State
  pub book : Meaning

-- a price that has to be in range
abbrev pub price_refusal : ℕ → Option Refusal
price_refusal price = first (not (between 1 price_max price) gives PriceOutOfRange ∷ [])

-- a spot price comes
abbrev pub spot_call : (price : ℕ) → State → Meaning → Effect (Unit {0})
spot_call price s m = record {
  refusal = price_refusal price;
  answer = tt;
  state = reviewed m (with_spot price s);
  book = m;
}

-- yen are paid in; they may clear a call
abbrev pub deposit_call : (account yen : ℕ) → State → Meaning → Effect (Unit {0})
deposit_call a yen s m = record {
  refusal = deposit_refusal m a yen;
  answer = tt;
  state = reviewed (entered m bank a (100 * yen)) (call_cleared a (entered m bank a (100 * yen)) s);
  book = entered m bank a (100 * yen);
}

-- yen are paid out
abbrev pub withdraw_sentences : (account yen : ℕ) → State → Meaning → List Sentence
withdraw_sentences a yen s m =
    payment_sentences a yen
    ++ not (is_sound (s.states a)) gives WrongAccountState
    ∷ exceeds (100 * yen) (m.balance a) (standing s m a) gives MarginTooSmall
    ∷ []

abbrev pub withdraw_call : (account yen : ℕ) → State → Meaning → Effect (Unit {0})
withdraw_call a yen s m = record {
  refusal = first (withdraw_sentences a yen s m ++ nat_eq m.left 0 gives NoEntryLeft ∷ []);
  answer = tt;
  state = reviewed (entered m a bank (100 * yen)) s;
  book = entered m a bank (100 * yen);
}

-- an order that is entered, and is no cut order
abbrev pub plain_order : (number account : ℕ) → Side → (price quantity : ℕ) → Order
plain_order n a side price q = record { number = n; account = a; side = side; price = price; quantity = q; cut = false }

-- with the next number
abbrev pub next_order : (account side price quantity : ℕ) → State → Order
next_order a b price q s = plain_order (s.issued + 1) a (side_of b) price q

-- the order, the account's other orders of its side and its position in that direction are too much together
abbrev pub oversized : Order → State → Bool
oversized o s = nat_lt position_max (o.quantity + ordered_of o.account o.side s.orders + position_of o.account o.side s.lots)

-- equity is below 100 % of the margin with the order; the proprietary account is not asked
abbrev pub uncovered : Order → State → Meaning → Bool
uncovered o s m = not (o.account == 2) && short_of (standing s m o.account).equity (standing (with_order o s) m o.account).margin

-- every slot holds an order, or the last number has been given
abbrev pub exhausted : State → Bool
exhausted s = nat_le s.order_slots (length s.orders) || s.issued == order_number_max

-- an order is entered; price 0 is for a market order
abbrev pub order_forms : (account side price quantity : ℕ) → List Sentence
order_forms a b price q =
    nat_lt a 2 gives AccountOutOfRange
    ∷ nat_lt 1 b gives CodeOutOfRange
    ∷ nat_lt price_max price gives PriceOutOfRange
    ∷ not (between 1 order_quantity_max q) gives QuantityOutOfRange
    ∷ []

abbrev pub order_sentences : Order → State → Meaning → List Sentence
order_sentences o s m =
    not (is_some s.spot) gives NoSpotPrice
    ∷ not (is_open (s.states o.account)) gives WrongAccountState
    ∷ oversized o s gives PositionTooLarge
    ∷ uncovered o s m gives MarginTooSmall
    ∷ exhausted s gives NoSlotLeft
    ∷ []

abbrev pub order_call : (account side price quantity : ℕ) → State → Meaning → Effect ℕ
order_call a b price q s m = record {
  refusal = first (order_forms a b price q ++ order_sentences (next_order a b price q s) s m);
  answer = s.issued + 1;
  state = reviewed m (with_order (next_order a b price q s) s);
  book = m;
}

-- an order is taken back; a cut order cannot be
abbrev pub cancel_call : (number : ℕ) → State → Meaning → Effect (Unit {0})
cancel_call n s m = record {
  refusal = first (not (is_plain (held n s.orders)) gives OrderNotHeld ∷ []);
  answer = tt;
  state = reviewed m (with_orders (without n s.orders) s);
  book = m;
}
