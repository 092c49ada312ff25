-- What is true of every lot of a ledger at a time.
use Rattle.std.specs.Prelude.{ℕ, ◌*◌, Bool, ◌&&◌, List, nat_le, unsigned_abs}
use Rattle.slots.specs.Every.{every}
use Rattle.terms.specs.declared.lot.Lot.{Lot}
use Rattle.terms.specs.Ranges.{between, price_max, position_max}
use Rattle.terms.specs.Bounds.{charge_limit}

abbrev pub lawful_lot : ℕ → Lot → Bool
lawful_lot time l = between 2 255 l.account && (between 1 position_max l.quantity && (between 1 price_max l.price && nat_le (unsigned_abs l.charge) (charge_limit time * l.quantity)))

abbrev pub lawful_lots : ℕ → List Lot → Bool
lawful_lots time = every (lawful_lot time)
