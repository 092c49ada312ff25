-- What a review decides of every account, and the orders that it leaves.
use Rattle.std.specs.Prelude.{◌≡◌, ℕ, ◌<◌, true, not, List, filter}
use Rattle.terms.specs.declared.lot.Lot.{Lot}
use Rattle.book.specs.Meaning.{Meaning}
use Rattle.orders.specs.declared.order.Order.{Order}
use Rattle.orders.specs.Orders.{lawful_orders}
use Rattle.accounts.specs.declared.accounts.Accounts.{Accounts}
use Rattle.accounts.specs.declared.state.AccountState.{AccountState}
use Rattle.accounts.specs.declared.standing.Decision.{Decision}
use Rattle.accounts.specs.Review.{reviewed}
use Rattle.accounts.specs.States.{state_of}
use Rattle.reviews.specs.Standings.{standing_of}

-- by a state for each account, whatever keeps the states
abbrev pub judged : Meaning → (percent spot mark : ℕ) → List Lot → List Order → (ℕ → AccountState) → ℕ → Decision
judged m percent spot mark lots orders states a = reviewed a (states a) (standing_of m percent spot mark lots orders a)

-- the orders of accounts whose orders are not void
abbrev pub orders_spared : Meaning → (percent spot mark : ℕ) → List Lot → List Order → (ℕ → AccountState) → List Order
orders_spared m percent spot mark lots orders states = filter (λ (o : Order). not (judged m percent spot mark lots orders states o.account).void) orders

-- judged again, after the states and orders that a review left, every account keeps its state and every order stays
abbrev pub JudgingAllTwiceIsOnce : Type 0
JudgingAllTwiceIsOnce =
    (m : Meaning) (percent spot mark : ℕ) (lots : List Lot) (orders : List Order) (states after : ℕ → AccountState)
    → ((a : ℕ) → after a ≡ (judged m percent spot mark lots orders states a).state)
    → ((a : ℕ) → (judged m percent spot mark lots (orders_spared m percent spot mark lots orders states) after a).state ≡ after a)
    × (orders_spared m percent spot mark lots (orders_spared m percent spot mark lots orders states) after ≡ orders_spared m percent spot mark lots orders states)

-- the same by the states that accounts keep
abbrev pub decided : Meaning → (percent spot mark : ℕ) → List Lot → List Order → Accounts → ℕ → Decision
decided m percent spot mark lots orders accounts = judged m percent spot mark lots orders (state_of accounts)

abbrev pub orders_left : Meaning → (percent spot mark : ℕ) → List Lot → List Order → Accounts → List Order
orders_left m percent spot mark lots orders accounts = orders_spared m percent spot mark lots orders (state_of accounts)

abbrev pub ReviewingAllTwiceIsOnce : Type 0
ReviewingAllTwiceIsOnce =
    (m : Meaning) (percent spot mark : ℕ) (lots : List Lot) (orders : List Order) (accounts after : Accounts)
    → ((a : ℕ) → a < 256 → state_of after a ≡ (decided m percent spot mark lots orders accounts a).state)
    → lawful_orders orders ≡ true
    → ((a : ℕ) → a < 256 → (decided m percent spot mark lots (orders_left m percent spot mark lots orders accounts) after a).state ≡ state_of after a)
    × (orders_left m percent spot mark lots (orders_left m percent spot mark lots orders accounts) after ≡ orders_left m percent spot mark lots orders accounts)
