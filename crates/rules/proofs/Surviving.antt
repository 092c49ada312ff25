-- An order that was taken is not void by its own review.
use Rattle.std.proofs.Common.{◌≡◌, ℕ, ◌+◌, ◌-◌, ◌*◌, ◌<◌, ◌≤◌, Bool, true, false, not, [], ◌∷◌, ℤ, is_some, filter, Option, refl, ap, arith}
use Rattle.std.proofs.lemmas.Nat.{mul-le, le-div}
use Rattle.std.proofs.lemmas.List.Elements.{filter-append}
use Rattle.std.proofs.lemmas.Bool.{cond-true}
use Rattle.std.proofs.lemmas.Int.{ints}
use Rattle.std.proofs.lemmas.Grind.{common_steps}
use Rattle.std.proofs.lemmas.Bool.Decides.{nat_tests}
use Rattle.terms.specs.Margins.{requirement, short_of, at_cut_level}
use Rattle.terms.specs.Rounding.{ceiling}
use Rattle.book.specs.Meaning.{Meaning}
use Rattle.orders.specs.declared.order.Order.{Order}
use Rattle.accounts.specs.declared.standing.Standing.{Standing}
use Rattle.rules.specs.State.{State, with_order, lawful_price}
use Rattle.rules.specs.Valuation.{price_or, spot_of, standing, decision, reviewed}
use Rattle.rules.specs.Calls.{next_order}
use Rattle.rules.specs.Laws.{EnteredOrdersAreHeld}
use Rattle.rules.proofs.Keeping.{none_above, none_kept, held_push}
use Rattle.rules.proofs.Taken.{Admitted, admitted}

spot_above : (spot : Option ℕ) → is_some spot ≡ true → lawful_price spot ≡ true → 1 ≤ price_or 0 spot
spot_above spot h l = grind (arith, nat_tests)

-- a position needs a margin
something_required : (percent price units : ℕ) → 1 ≤ percent → 1 ≤ price → 1 ≤ units → 1 ≤ requirement percent price units
unfolding requirement ceiling
something_required percent price units p x u =
    let n = price * units * percent in
    let some : 1 ≤ n = omega (arith, mul-le 1 1 (price * units) percent (omega (arith, mul-le 1 1 price units x u)) p) in
    le-div 1 (n + (10000 - 1)) 10000 (omega arith) (omega arith)

-- equity of all the margin is above half of the requirement
above_half : (equity : ℤ) (required margin : ℕ) → 0 < required → required ≤ margin → short_of equity margin ≡ false → at_cut_level equity required ≡ false
above_half equity required margin some part h = grind (arith, ints, nat_tests)

spared : (o : Order) (s : State) (m : Meaning) → lawful_price s.spot ≡ true → Admitted o s m → (decision (with_order o s) m o.account).void ≡ false
spared o s m priced taken =
    let now : Standing = standing (with_order o s) m o.account in
    let needs = something_required s.settings.margin_percent (spot_of s) now.units in
    let half = above_half now.equity now.requirement now.margin in
    let spot = spot_above s.spot taken.spotted priced in
    let some = s.settings.margined in
    grind (arith, nat_tests, common_steps, needs, half, spot, some, taken.active, taken.covered)

pub entered : EnteredOrdersAreHeld
unfolding reviewed
entered a b price q s m priced numbered h =
    let o = next_order a b price q s in
    let n = s.issued + 1 in
    let keeps : Order → Bool = λ (x : Order). not (decision (with_order o s) m x.account).void in
    let own = cond-true (keeps o) (o ∷ []) [] (ap not (spared o s m priced (admitted a b price q s m h))) in
    let os = s.orders in
    let new = none_kept keeps n os (none_above n 0 s.issued os (omega arith) numbered) in
    rw (filter-append keeps os (o ∷ []), own) (held_push n (filter keeps os) o new refl)
