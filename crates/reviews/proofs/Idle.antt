-- An account without lots and orders is left as it is; no account past 255 has any.
use Rattle.std.proofs.Common.{◌≡◌, ℕ, ◌≤◌, true, false, pos, List, [], ◌∷◌, ℤ, refl, mul-zero, zero-mul, arith}
use Rattle.std.proofs.lemmas.Grind.{common_steps}
use Rattle.std.proofs.lemmas.Bool.Decides.{nat_tests}
use Rattle.slots.specs.Every.{every}
use Rattle.terms.specs.declared.lot.Lot.{Lot}
use Rattle.terms.specs.Rounding.{ceiling}
use Rattle.terms.specs.Margins.{requirement}
use Rattle.book.specs.Meaning.{Meaning}
use Rattle.lots.specs.declared.holding.Holding.{Holding}
use Rattle.lots.specs.Lots.{lawful_lots}
use Rattle.lots.specs.Worth.{units_of, holding_of}
use Rattle.orders.specs.declared.order.Order.{Order}
use Rattle.orders.specs.Margins.{margin_of}
use Rattle.orders.specs.Orders.{lawful_orders}
use Rattle.accounts.specs.declared.state.AccountState.{AccountState}
use Rattle.accounts.specs.declared.standing.Standing.{Standing}
use Rattle.accounts.specs.Review.{decide, reviewed}
use Rattle.reviews.specs.Standings.{standing_by}
use Rattle.reviews.specs.Reviews.{judged}

pub nothing_required : (p price q : ℕ) → q ≡ 0 → requirement p price q ≡ 0
unfolding requirement ceiling
nothing_required p price q e = rw (e, mul-zero price, zero-mul p)

pub idle : (a : ℕ) (st : AccountState) (s : Standing) → s.units ≡ 0 → s.margin ≡ 0 → reviewed a st s ≡ decide st false
idle a st s u m = grind (arith, common_steps)

pub no_margin : (z : ℤ) (p spot a : ℕ) (h : Holding) (n : ℕ) → h.units ≡ 0 → n ≡ 0 → (standing_by z p spot a h n).margin ≡ 0
no_margin z p spot a h n u e = grind (arith, common_steps, nothing_required p spot h.units)

pub idle_by : (a : ℕ) (st : AccountState) (z : ℤ) (p spot : ℕ) (h : Holding) (n : ℕ) → h.units ≡ 0 → n ≡ 0 → reviewed a st (standing_by z p spot a h n) ≡ decide st false
idle_by a st z p spot h n u e = idle a st (standing_by z p spot a h n) u (no_margin z p spot a h n u e)

-- no lawful lot or order is of an account past 255
pub no_units : (time a : ℕ) → 256 ≤ a → (ls : List Lot) → lawful_lots time ls ≡ true → units_of a ls ≡ 0
unfolding every units_of
no_units time a h [] s = refl
no_units time a h (l ∷ ls) s = grind (arith, common_steps, nat_tests, no_units time a h ls)

pub no_margins : (a p mark : ℕ) → 256 ≤ a → (os : List Order) → lawful_orders os ≡ true → margin_of a p mark os ≡ 0
unfolding every margin_of
no_margins a p mark h [] s = refl
no_margins a p mark h (o ∷ os) s = grind (arith, common_steps, nat_tests, no_margins a p mark h os)

pub past : (m : Meaning) (time p spot mark a : ℕ) (ls : List Lot) (os : List Order) (states : ℕ → AccountState) → 256 ≤ a → lawful_lots time ls ≡ true → lawful_orders os ≡ true → judged m p spot mark ls os states a ≡ decide (states a) false
past m time p spot mark a ls os states h s o = idle_by a (states a) (m.balance a) p spot (holding_of a (pos mark) ls) (margin_of a p mark os) (no_units time a h ls s) (no_margins a p mark h os o)
