-- How the accounts of a ledger stand, and what a review makes of them.
use Rattle.std.specs.Prelude.{ℕ, cond, List, ℤ, ◌+ℤ◌, ◌-ℤ◌, Some, None, Option, ◌==◌}
use Rattle.book.specs.Meaning.{Meaning}
use Rattle.lots.specs.Worth.{worth_of, worth_of_all}
use Rattle.orders.specs.declared.order.Order.{Order}
use Rattle.accounts.specs.declared.standing.Standing.{Standing}
use Rattle.accounts.specs.declared.standing.Decision.{Decision}
use Rattle.accounts.specs.Review.{cleared}
use Rattle.reviews.specs.Standings.{standing_of}
use Rattle.reviews.specs.Reviews.{judged, orders_spared}
use Rattle.rules.specs.State.{State, with_states, with_orders}

-- a price, or another where none has come
abbrev pub price_or : ℕ → Option ℕ → ℕ
price_or p None = p
price_or p (Some q) = q

-- spot; before the first there is no lot and no order that it could value
abbrev pub spot_of : State → ℕ
spot_of s = price_or 0 s.spot

-- the price that equity and market orders are valued at: the last CFD price, or spot before any fill
abbrev pub mark_of : State → ℕ
mark_of s = price_or (spot_of s) s.last

-- equity, requirement, margin and units of account a
abbrev pub standing : State → Meaning → ℕ → Standing
standing s m a = standing_of m s.settings.margin_percent (spot_of s) (mark_of s) s.lots s.orders a

-- what account a holds closed out at a price: its balance and its lots; the company stands against all lots
abbrev pub closed_out : State → Meaning → ℤ → ℕ → ℤ
closed_out s m price a = cond (a == 1) (m.balance 1 -ℤ worth_of_all price s.lots) (m.balance a +ℤ worth_of a price s.lots)

-- what a review decides of account a
abbrev pub decision : State → Meaning → ℕ → Decision
decision s m a = judged m s.settings.margin_percent (spot_of s) (mark_of s) s.lots s.orders s.states a

abbrev pub orders_kept : State → Meaning → List Order
orders_kept s m = orders_spared m s.settings.margin_percent (spot_of s) (mark_of s) s.lots s.orders s.states

-- a ledger after the review of all its accounts
unfoldable pub reviewed : Meaning → State → State
reviewed m s = with_states (λ a. (decision s m a).state) (with_orders (orders_kept s m) s)

-- account a, if it is called and its equity now suffices, is sound again
unfoldable pub call_cleared : ℕ → Meaning → State → State
call_cleared a m s = with_states (λ k. cond (a == k) (cleared (s.states a) (standing s m a)) (s.states k)) s
