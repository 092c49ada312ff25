-- A ledger read as a plain record, and the slots that it does not use.
use Rattle.std.specs.Prelude.{◌≡◌, ℕ, ◌+◌, ◌-◌, ◌≤◌, length, drop}
use Rattle.slots.specs.Items.{items, free, capacity}
use Rattle.accounts.specs.States.{state_of}
use Rattle.rules.specs.State.{State}
use Rattle.ledger.specs.declared.ledger.Ledger.{Ledger}
use Rattle.ledger.specs.declared.status.Status.{Status}

abbrev pub view : Ledger → State
view l = record {
  settings = l.settings;
  time = l.lots.time;
  spot = l.spot;
  last = l.last;
  halt = l.halt;
  issued = l.issued;
  states = state_of l.accounts;
  lots = items l.lots.list;
  orders = items l.orders.list;
  lot_slots = capacity l.lots.list;
  order_slots = capacity l.orders.list;
}

-- at most n orders came, and past the records no slot has changed but for those that they took
pub record Untouched (n : ℕ) (l l' : Ledger) : Type 0 where
  pub lots : free l'.lots.list ≡ free l.lots.list
  pub few : length (items l'.orders.list) ≤ n + length (items l.orders.list)
  pub orders : drop (n + length (items l.orders.list) - length (items l'.orders.list)) (free l'.orders.list) ≡ drop n (free l.orders.list)

-- its numbers at a glance
abbrev pub status_of : State → Status
status_of s = record { time = s.time; spot = s.spot; last = s.last; halt = s.halt; issued = s.issued; lots = length s.lots; orders = length s.orders }
