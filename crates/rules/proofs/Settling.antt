-- A review over what a review left alters nothing, and what a review leaves alone.
use Rattle.std.proofs.Common.{◌≡◌, ℕ, false, not, sym, refl, ap, ◌∙◌, arith}
use Rattle.std.proofs.lemmas.Grind.{common_steps}
use Rattle.book.specs.Meaning.{Meaning}
use Rattle.orders.specs.declared.order.Order.{Order}
use Rattle.accounts.specs.declared.standing.Decision.{Decision}
use Rattle.accounts.specs.Review.{decide}
use Rattle.reviews.proofs.Twice.{judged_twice}
use Rattle.rules.specs.State.{State}
use Rattle.rules.specs.Valuation.{spot_of, mark_of, decision, orders_kept, reviewed}
use Rattle.rules.specs.Laws.{PassedOver, CallsLeaveItReviewed, ReviewingAgainAltersNothing, ReviewsAlterStatesAndOrders}
use Rattle.rules.proofs.Reviewing.{is_reviewed}
use Rattle.rules.proofs.Keeping.{all_kept}

pub again : ReviewingAgainAltersNothing
unfolding reviewed
again m s =
    let settled = judged_twice m s.settings.margin_percent (spot_of s) (mark_of s) s.lots s.orders s.states (λ a. (decision s m a).state) (λ a. refl) in
    sym (is_reviewed m (reviewed m s) _ (spot_of s) (mark_of s) refl refl refl (λ a. (decision s m a).state) (orders_kept s m) s.order_slots (λ a. sym (settled.0 a)) (sym settled.1) refl)

pub calls_again : CallsLeaveItReviewed
calls_again = record {
  spot = λ price s m. again m _;
  deposit = λ a yen s m. again _ _;
  withdraw = λ a yen s m. again _ s;
  order = λ a b price q s m. again m _;
  cancel = λ n s m. again m _;
}

-- of an account that is passed over
pub passed : (m : Meaning) (s : State) (a : ℕ) → PassedOver s a → decision s m a ≡ decide (s.states a) false
passed m s a over = grind (arith, common_steps)

pub left_alone : ReviewsAlterStatesAndOrders
unfolding reviewed
left_alone m s =
    record {
      settings = refl;
      time = refl;
      spot = refl;
      last = refl;
      halt = refl;
      issued = refl;
      lots = refl;
      lot_slots = refl;
      order_slots = refl;
      states = λ a over. ap (λ (d : Decision). d.state) (passed m s a over);
      orders = λ a over.
          all_kept (λ (o : Order). not (decision s m o.account).void) a (λ o own. ap (λ (k : ℕ). not (decision s m k).void) own ∙ ap (λ (d : Decision). not d.void) (passed m s a over)) s.orders;
    }
