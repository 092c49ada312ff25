-- What an account has ordered and holds on one side, once an order of its own is entered.
use Rattle.std.proofs.Common.{ℕ, ◌+◌, ◌≤◌, Bool, not, ◌&&◌, eqb, [], ◌∷◌, ◌++◌, arith}
use Rattle.std.proofs.lemmas.Bool.{ltb-false, cond_both}
use Rattle.terms.specs.Codes.{side_of, same_side}
use Rattle.terms.specs.Ranges.{position_max}
use Rattle.lots.specs.Positions.{position_of}
use Rattle.orders.specs.declared.order.Order.{Order}
use Rattle.orders.specs.Margins.{ordered_of}
use Rattle.orders.proofs.Sums.{ordered_push}
use Rattle.rules.specs.State.{with_order}
use Rattle.rules.specs.Valuation.{decision, reviewed}
use Rattle.rules.specs.Calls.{next_order}
use Rattle.rules.specs.Laws.{OrdersStayWithinTheLimit}
use Rattle.rules.proofs.Keeping.{ordered_kept}
use Rattle.rules.proofs.Taken.{admitted}

pub within : OrdersStayWithinTheLimit
unfolding reviewed
within a b price q s m h =
    let o = next_order a b price q s in
    let side = side_of b in
    let keeps : Order → Bool = λ (x : Order). not (decision (with_order o s) m x.account).void in
    let fits = ltb-false position_max (q + ordered_of a side s.orders + position_of a side s.lots) (admitted a b price q s m h).sized in
    let own = cond_both (eqb a a && same_side side side) q 0 (λ (n : ℕ). n ≤ q) (λ e. omega arith) (λ e. omega arith) in
    omega (arith, fits, own, ordered_push a side s.orders o, ordered_kept keeps a side (s.orders ++ o ∷ []))
