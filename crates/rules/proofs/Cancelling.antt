-- What taking an order back leaves.
use Rattle.std.proofs.Common.{Bool, not, eqb, arith}
use Rattle.std.proofs.lemmas.Bool.Decides.{nat_tests}
use Rattle.orders.specs.declared.order.Order.{Order}
use Rattle.orders.specs.Numbers.{without}
use Rattle.orders.proofs.Numbers.{rising_kept, without_held, without_others}
use Rattle.rules.specs.State.{with_orders}
use Rattle.rules.specs.Valuation.{decision, reviewed}
use Rattle.rules.specs.Laws.{CancelsTakeOneOrder}
use Rattle.rules.proofs.Keeping.{none_kept, held_kept}
use Rattle.rules.proofs.Quiet.{quiet_fewer}

pub cancels : CancelsTakeOneOrder
unfolding reviewed
cancels n s m h =
    let os = without n s.orders in
    let keeps : Order → Bool = λ (o : Order). not (decision (with_orders os s) m o.account).void in
    let other : Order → Bool = λ (o : Order). not (eqb o.number n) in
    record {
      was = grind (arith, nat_tests);
      gone = without_held n s.orders;
      others = λ k d. without_others n k s.orders d;
      stays_gone = none_kept keeps n os (without_held n s.orders);
      only = quiet_fewer m s other;
      none_new = λ numbered k o e.
          held_kept other k 0 s.issued s.orders o numbered (held_kept keeps k 0 s.issued os o (rising_kept other 0 s.issued s.orders numbered) e);
    }
