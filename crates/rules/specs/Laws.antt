-- The laws of the calls; src/laws.rt has a function for each.
use Rattle.std.specs.Prelude.{◌≡◌, ℕ, ◌+◌, ◌<◌, ◌≤◌, true, false, ◌⊎◌, List, length, pos, Some, None, filter, ◌≢◌, nat_eq, slice_index_or}
use Rattle.terms.specs.Codes.{side_of}
use Rattle.terms.specs.Ranges.{position_max}
use Rattle.book.specs.Meaning.{Meaning}
use Rattle.lots.specs.Positions.{position_of}
use Rattle.orders.specs.declared.order.Order.{Order}
use Rattle.orders.specs.Margins.{ordered_of}
use Rattle.orders.specs.Numbers.{held, is_plain, without, rising}
use Rattle.accounts.specs.Review.{is_open}
use Rattle.rules.specs.State.{State, with_orders, lawful_price, valued}
use Rattle.rules.specs.Valuation.{standing, closed_out, reviewed}
use Rattle.rules.specs.Calls.{Effect, spot_call, deposit_call, withdraw_call, order_call, cancel_call, next_order}

-- no sentence refuses the call
abbrev pub Taken : {A : Type 0} → Effect A → Type 0
Taken e = e.refusal ≡ None

-- the numbers of the orders rise from 1 on, and none is above the last that was given; every ledger keeps this
abbrev pub Numbered : State → Type 0
Numbered s = rising 0 s.issued s.orders ≡ true

-- account a's orders, in their order
abbrev pub orders_of : ℕ → List Order → List Order
orders_of a = filter (λ (o : Order). nat_eq o.account a)

-- a ledger that was reviewed is not altered by another review
abbrev pub ReviewingAgainAltersNothing : Type 0
ReviewingAgainAltersNothing = (m : Meaning) (s : State) → reviewed m (reviewed m s) ≡ reviewed m s

-- every call that is taken leaves the ledger so, over the book that it leaves
pub record CallsLeaveItReviewed : Type 0 where
  pub spot : (price : ℕ) (s : State) (m : Meaning) → reviewed (spot_call price s m).book (spot_call price s m).state ≡ (spot_call price s m).state
  pub deposit : (a yen : ℕ) (s : State) (m : Meaning) → reviewed (deposit_call a yen s m).book (deposit_call a yen s m).state ≡ (deposit_call a yen s m).state
  pub withdraw : (a yen : ℕ) (s : State) (m : Meaning) → reviewed (withdraw_call a yen s m).book (withdraw_call a yen s m).state ≡ (withdraw_call a yen s m).state
  pub order : (a b price q : ℕ) (s : State) (m : Meaning) → reviewed (order_call a b price q s m).book (order_call a b price q s m).state ≡ (order_call a b price q s m).state
  pub cancel : (n : ℕ) (s : State) (m : Meaning) → reviewed (cancel_call n s m).book (cancel_call n s m).state ≡ (cancel_call n s m).state

-- the accounts that a review passes over: the proprietary one, and those neither sound nor called
abbrev pub PassedOver : State → ℕ → Type 0
PassedOver s a = (a ≡ 2) ⊎ (is_open (s.states a) ≡ false)

-- what a review leaves alone: all but states and orders, and of the accounts that it passes over these too
pub record LeftAlone (m : Meaning) (s : State) : Type 0 where
  pub settings : (reviewed m s).settings ≡ s.settings
  pub time : (reviewed m s).time ≡ s.time
  pub spot : (reviewed m s).spot ≡ s.spot
  pub last : (reviewed m s).last ≡ s.last
  pub halt : (reviewed m s).halt ≡ s.halt
  pub issued : (reviewed m s).issued ≡ s.issued
  pub lots : (reviewed m s).lots ≡ s.lots
  pub lot_slots : (reviewed m s).lot_slots ≡ s.lot_slots
  pub order_slots : (reviewed m s).order_slots ≡ s.order_slots
  pub states : (a : ℕ) → PassedOver s a → (reviewed m s).states a ≡ s.states a
  pub orders : (a : ℕ) → PassedOver s a → orders_of a (reviewed m s).orders ≡ orders_of a s.orders

abbrev pub ReviewsAlterStatesAndOrders : Type 0
ReviewsAlterStatesAndOrders = (m : Meaning) (s : State) → LeftAlone m s

-- order n, which was held and is no cut order, is taken back
pub record Cancelled (n : ℕ) (s : State) (m : Meaning) : Type 0 where
  pub was : is_plain (held n s.orders) ≡ true
  -- of the orders that the review then comes to it is gone, and every other number is held as before
  pub gone : held n (without n s.orders) ≡ None
  pub others : (k : ℕ) → (k ≢ n) → held k (without n s.orders) ≡ held k s.orders
  -- after the review too it is gone, and an order that is held was held before
  pub stays_gone : held n (cancel_call n s m).state.orders ≡ None
  -- of a ledger that stood as a review leaves it, nothing else changes
  pub only : reviewed m s ≡ s → (cancel_call n s m).state ≡ with_orders (without n s.orders) s
  pub none_new : Numbered s → (k : ℕ) (o : Order) → held k (cancel_call n s m).state.orders ≡ Some o → held k s.orders ≡ Some o

abbrev pub CancelsTakeOneOrder : Type 0
CancelsTakeOneOrder = (n : ℕ) (s : State) (m : Meaning) → Taken (cancel_call n s m) → Cancelled n s m

-- after an order is entered, what its account has ordered and holds on its side is within the limit
abbrev pub OrdersStayWithinTheLimit : Type 0
OrdersStayWithinTheLimit =
    (a b price q : ℕ) (s : State) (m : Meaning) → Taken (order_call a b price q s m)
    → ordered_of a (side_of b) (order_call a b price q s m).state.orders + position_of a (side_of b) (order_call a b price q s m).state.lots ≤ position_max

-- no number is given twice: the last that was given does not fall, and the orders stay numbered
pub record NumbersRise (before after : State) : Type 0 where
  pub issued : before.issued ≤ after.issued
  pub numbered : Numbered before → Numbered after

-- over each call
pub record CallsKeepNumbersApart : Type 0 where
  pub spot : (price : ℕ) (s : State) (m : Meaning) → Taken (spot_call price s m) → NumbersRise s (spot_call price s m).state
  pub deposit : (a yen : ℕ) (s : State) (m : Meaning) → Taken (deposit_call a yen s m) → NumbersRise s (deposit_call a yen s m).state
  pub withdraw : (a yen : ℕ) (s : State) (m : Meaning) → Taken (withdraw_call a yen s m) → NumbersRise s (withdraw_call a yen s m).state
  pub order : (a b price q : ℕ) (s : State) (m : Meaning) → Taken (order_call a b price q s m) → NumbersRise s (order_call a b price q s m).state
  pub cancel : (n : ℕ) (s : State) (m : Meaning) → Taken (cancel_call n s m) → NumbersRise s (cancel_call n s m).state

-- an order has the number after the last, and that is the last from then on
pub record Next (a b price q : ℕ) (s : State) (m : Meaning) : Type 0 where
  pub answer : (order_call a b price q s m).answer ≡ s.issued + 1
  pub issued : (order_call a b price q s m).state.issued ≡ (order_call a b price q s m).answer

abbrev pub OrdersHaveTheNextNumber : Type 0
OrdersHaveTheNextNumber = (a b price q : ℕ) (s : State) (m : Meaning) → Taken (order_call a b price q s m) → Next a b price q s m

-- what it means that the orders are numbered: by their places, of two orders the later has the higher number, and none is above the last that was given
pub record Apart (s : State) : Type 0 where
  pub later : (i j : ℕ) (d : Order) → i < j → j < length s.orders → (slice_index_or s.orders i d).number < (slice_index_or s.orders j d).number
  pub within : (i : ℕ) (d : Order) → i < length s.orders → (slice_index_or s.orders i d).number ≤ s.issued

abbrev pub NumberedOrdersAreApart : Type 0
NumberedOrdersAreApart = (s : State) → Numbered s → Apart s

-- an order that is entered is held after the review that follows, under the number that was answered; every ledger has its spot price in range
abbrev pub EnteredOrdersAreHeld : Type 0
EnteredOrdersAreHeld =
    (a b price q : ℕ) (s : State) (m : Meaning) → lawful_price s.spot ≡ true → Numbered s → Taken (order_call a b price q s m)
    → held (order_call a b price q s m).answer (order_call a b price q s m).state.orders ≡ Some (next_order a b price q s)

-- there are lots only with a last price, and lots and orders only with a spot price; every ledger keeps this
abbrev pub Priced : State → Type 0
Priced s = valued s.spot s.last s.lots s.orders ≡ true

-- what an account's equity and margin rest on: the last CFD price, and spot
pub record StandingsByThePrices : Type 0 where
  -- equity is what the account would hold closed out at the last CFD price, and before any fill it is the balance
  pub filled : (s : State) (m : Meaning) (a price : ℕ) → (a ≢ 1) → s.last ≡ Some price → (standing s m a).equity ≡ closed_out s m (pos price) a
  pub unfilled : (s : State) (m : Meaning) (a : ℕ) → Priced s → s.last ≡ None → (standing s m a).equity ≡ m.balance a
  -- before any spot price nothing is required
  pub unspotted : (s : State) (m : Meaning) (a : ℕ) → Priced s → s.spot ≡ None → ((standing s m a).requirement ≡ 0) × ((standing s m a).margin ≡ 0)
