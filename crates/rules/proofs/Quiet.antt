-- A ledger that stands as a review leaves it, with fewer orders: a review still changes nothing.
use Rattle.std.proofs.Common.{◌≡◌, Bool, not, List, [], ◌∷◌, filter, sym, refl, ap, ◌∙◌, arith}
use Rattle.std.proofs.lemmas.Grind.{common_steps}
use Rattle.book.specs.Meaning.{Meaning}
use Rattle.orders.specs.declared.order.Order.{Order}
use Rattle.reviews.proofs.Twice.{judged_again, margin_fewer}
use Rattle.rules.specs.State.{State, with_orders}
use Rattle.rules.specs.Valuation.{spot_of, mark_of, decision, reviewed}
use Rattle.rules.proofs.Reviewing.{is_reviewed}

swapped : {T : Type 0} (p q : T → Bool) (xs : List T) → filter p (filter q xs) ≡ filter q (filter p xs)
swapped p q [] = refl
swapped p q (x ∷ xs) = grind (arith, common_steps, swapped p q xs)

pub quiet_fewer : (m : Meaning) (s : State) (keeps : Order → Bool) → reviewed m s ≡ s → reviewed m (with_orders (filter keeps s.orders) s) ≡ with_orders (filter keeps s.orders) s
unfolding reviewed
quiet_fewer m s keeps settled =
    let os = s.orders in
    let p = s.settings.margin_percent in
    let spared : Order → Bool = λ (o : Order). not (decision s m o.account).void in
    let kept = swapped spared keeps os ∙ ap (λ (x : State). filter keeps x.orders) settled in
    let still = judged_again m p (spot_of s) (mark_of s) s.lots os (filter keeps os) s.states s.states (λ a. sym (ap (λ (x : State). x.states a) settled)) (λ a. margin_fewer keeps a p (mark_of s) os) kept in
    sym (is_reviewed m (with_orders (filter keeps os) s) p (spot_of s) (mark_of s) refl refl refl s.states (filter keeps os) s.order_slots (λ a. sym (still.0 a)) (sym still.1) refl)
