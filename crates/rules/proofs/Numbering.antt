-- The numbers of the orders over each call.
use Rattle.std.proofs.Common.{◌≡◌, ℕ, ◌*◌, not, eqb, refl, arith}
use Rattle.terms.specs.Ranges.{bank}
use Rattle.book.specs.Meaning.{Meaning, entered}
use Rattle.orders.specs.declared.order.Order.{Order}
use Rattle.orders.specs.Numbers.{without}
use Rattle.orders.proofs.Numbers.{rising_kept, rising_push, rising_at, rising_apart}
use Rattle.rules.specs.State.{State, with_spot, with_order, with_orders}
use Rattle.rules.specs.Valuation.{decision, reviewed, call_cleared}
use Rattle.rules.specs.Calls.{next_order}
use Rattle.rules.specs.Laws.{NumbersRise, CallsKeepNumbersApart, OrdersHaveTheNextNumber, NumberedOrdersAreApart}

-- a review after it
then : (m : Meaning) (s t : State) → NumbersRise s t → NumbersRise s (reviewed m t)
unfolding reviewed
then m s t r =
    record {
      issued = r.issued;
      numbered = λ n. rising_kept (λ (o : Order). not (decision t m o.account).void) 0 t.issued t.orders (r.numbered n);
    }

-- no order comes and none goes
same : (s t : State) → t.issued ≡ s.issued → t.orders ≡ s.orders → NumbersRise s t
same s t i o = record { issued = omega arith; numbered = λ n. rw (i, o) n }

cleared : (a : ℕ) (m : Meaning) (s : State) → NumbersRise s (call_cleared a m s)
unfolding call_cleared
cleared a m s = same s (call_cleared a m s) refl refl

pub calls : CallsKeepNumbersApart
calls =
    record {
      spot = λ price s m h. then m s (with_spot price s) (same s (with_spot price s) refl refl);
      deposit = λ a yen s m h. let after = entered m bank a (100 * yen) in then after s (call_cleared a after s) (cleared a after s);
      withdraw = λ a yen s m h. then (entered m a bank (100 * yen)) s s (same s s refl refl);
      order = λ a b price q s m h.
          let o = next_order a b price q s in
          then m s (with_order o s) (record { issued = omega arith; numbered = λ n. rising_push 0 s.issued s.orders o (omega arith) (omega arith) n });
      cancel = λ n s m h.
          then m s (with_orders (without n s.orders) s) (record { issued = omega arith; numbered = λ r. rising_kept (λ (o : Order). not (eqb o.number n)) 0 s.issued s.orders r });
    }

pub next : OrdersHaveTheNextNumber
unfolding reviewed
next a b price q s m h = record { answer = refl; issued = refl }

pub apart : NumberedOrdersAreApart
apart s n = record { later = λ i j d l h. rising_apart 0 s.issued s.orders i j d n l h; within = λ i d h. (rising_at 0 s.issued s.orders i d n h).1 }
