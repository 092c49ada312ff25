-- What a ledger holds.
use Rattle.std.specs.Prelude.{◌≡◌, ℕ, ◌≤◌, min, Bool, true, false, ◌&&◌, ◌||◌, List, [], ◌∷◌, ◌++◌, is_some, Some, None, Option}
use Rattle.terms.specs.declared.settings.Settings.{Settings}
use Rattle.terms.specs.declared.lot.Lot.{Lot}
use Rattle.terms.specs.Ranges.{between, last_time, price_max, slots_max}
use Rattle.lots.specs.Lots.{lawful_lots}
use Rattle.orders.specs.declared.order.Order.{Order}
use Rattle.orders.specs.Orders.{lawful_orders}
use Rattle.orders.specs.Numbers.{rising}
use Rattle.accounts.specs.declared.state.AccountState.{AccountState}
use Rattle.accounts.specs.declared.state.AccountState.TheVariants.{Sound}

pub record State : Type 0 where
  pub settings : Settings
  pub time : ℕ
  -- the latest spot price, and the CFD price of the last fill
  pub spot : Option ℕ
  pub last : Option ℕ
  -- in a halt, the earliest time at which trading can be reopened
  pub halt : Option ℕ
  -- the last order number given, 0 if none was
  pub issued : ℕ
  pub states : ℕ → AccountState
  pub lots : List Lot
  pub orders : List Order
  -- how many of each there is room for
  pub lot_slots : ℕ
  pub order_slots : ℕ

-- a ledger that has just been opened
abbrev pub opened : Settings → (lot_slots order_slots : ℕ) → State
opened settings lots orders = record { settings = settings; time = 0; spot = None; last = None; halt = None; issued = 0; states = λ a. Sound; lots = []; orders = []; lot_slots = min slots_max lots; order_slots = min slots_max orders }

-- a ledger with other prices, states or orders, and all else as it was
abbrev pub with_spot : ℕ → State → State
with_spot price s = record { settings = s.settings; time = s.time; spot = Some price; last = s.last; halt = s.halt; issued = s.issued; states = s.states; lots = s.lots; orders = s.orders; lot_slots = s.lot_slots; order_slots = s.order_slots }

abbrev pub with_states : (ℕ → AccountState) → State → State
with_states states s = record { settings = s.settings; time = s.time; spot = s.spot; last = s.last; halt = s.halt; issued = s.issued; states = states; lots = s.lots; orders = s.orders; lot_slots = s.lot_slots; order_slots = s.order_slots }

abbrev pub with_orders : List Order → State → State
with_orders orders s = record { settings = s.settings; time = s.time; spot = s.spot; last = s.last; halt = s.halt; issued = s.issued; states = s.states; lots = s.lots; orders = orders; lot_slots = s.lot_slots; order_slots = s.order_slots }

-- with one order more, which has the last number given
abbrev pub with_order : Order → State → State
with_order o s = record { settings = s.settings; time = s.time; spot = s.spot; last = s.last; halt = s.halt; issued = o.number; states = s.states; lots = s.lots; orders = s.orders ++ o ∷ []; lot_slots = s.lot_slots; order_slots = s.order_slots }

-- what is true of a price that has come
abbrev pub lawful_price : Option ℕ → Bool
lawful_price None = true
lawful_price (Some p) = between 1 price_max p

abbrev pub none : {T : Type 0} → List T → Bool
none [] = true
none (x ∷ xs) = false

-- there are lots only once there is a last price, and lots and orders only once there is a spot price
abbrev pub valued : (spot last : Option ℕ) → List Lot → List Order → Bool
valued spot last lots orders = (is_some last || none lots) && (is_some spot || (none lots && none orders))

-- what is true of every ledger
pub record Kept (s : State) : Type 0 where
  pub timely : s.time ≤ last_time
  pub spotted : lawful_price s.spot ≡ true
  pub marked : lawful_price s.last ≡ true
  pub few_lots : s.lot_slots ≤ slots_max
  pub few_orders : s.order_slots ≤ slots_max
  pub lots_lawful : lawful_lots s.time s.lots ≡ true
  pub orders_lawful : lawful_orders s.orders ≡ true
  pub numbered : rising 0 s.issued s.orders ≡ true
  pub priced : valued s.spot s.last s.lots s.orders ≡ true
