-- Equity and margin by the prices that have come.
use Rattle.std.proofs.Common.{◌≡◌, ℕ, true, eqb, List, [], ◌∷◌, pos, ◌+ℤ◌, ◌-ℤ◌, None, Option, sym, refl, ap, ◌∙◌, arith}
use Rattle.std.proofs.lemmas.Int.{ints}
use Rattle.std.proofs.lemmas.Bool.{cond-false, ne_eqb, false≢true}
use Rattle.std.proofs.lemmas.Grind.{common_steps}
use Rattle.terms.specs.declared.lot.Lot.{Lot}
use Rattle.lots.specs.Worth.{worth_of, worth_of_all, units_of}
use Rattle.orders.specs.declared.order.Order.{Order}
use Rattle.orders.specs.Margins.{margin_of}
use Rattle.reviews.proofs.Idle.{nothing_required}
use Rattle.rules.specs.State.{none, valued}
use Rattle.rules.specs.Valuation.{price_or, spot_of, mark_of}
use Rattle.rules.specs.Laws.{StandingsByThePrices}

empty : {T : Type 0} (xs : List T) → none xs ≡ true → xs ≡ []
empty [] h = refl
empty (x ∷ xs) h = absurd (false≢true h)

-- no lot without a last price, no lot and no order without a spot price
no_fill : (spot last : Option ℕ) (lots : List Lot) (orders : List Order) → valued spot last lots orders ≡ true → last ≡ None → lots ≡ []
no_fill spot last lots orders h e = empty lots (grind (arith, common_steps))

no_spot : (spot last : Option ℕ) (lots : List Lot) (orders : List Order) → valued spot last lots orders ≡ true → spot ≡ None → (lots ≡ []) × (orders ≡ [])
no_spot spot last lots orders h e = (empty lots (grind (arith, common_steps)), empty orders (grind (arith, common_steps)))

pub by_the_prices : StandingsByThePrices
unfolding worth_of units_of margin_of
by_the_prices = record {
  filled = λ s m a price other e.
      ap (λ (o : Option ℕ). m.balance a +ℤ worth_of a (pos (price_or (spot_of s) o)) s.lots) e
      ∙ sym (cond-false (eqb a 1) (m.balance 1 -ℤ worth_of_all (pos price) s.lots) (m.balance a +ℤ worth_of a (pos price) s.lots) (ne_eqb a 1 other));
  unfilled = λ s m a priced e.
      let z = ap (worth_of a (pos (mark_of s))) (no_fill s.spot s.last s.lots s.orders priced e) in
      omega (arith, ints, z);
  unspotted = λ s m a priced e.
      let bare = no_spot s.spot s.last s.lots s.orders priced e in
      let p = s.settings.margin_percent in
      let r = nothing_required p (spot_of s) (units_of a s.lots) (ap (units_of a) bare.0) in
      let n = ap (margin_of a p (mark_of s)) bare.1 in
      (grind (arith, common_steps), grind (arith, common_steps));
}
