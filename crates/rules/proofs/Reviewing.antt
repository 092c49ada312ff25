-- What shows that a ledger has been reviewed, or a call of it cleared; what a review leaves alone.
use Rattle.std.proofs.Common.{◌≡◌, ℕ, ◌≤◌, Bool, true, cond, not, eqb, List, [], ◌∷◌, length, is_some, filter, Option, refl, ap, ◌∙◌, arith}
use mathlib.Core.Path.{fun_ext}
use Rattle.std.proofs.lemmas.List.Filters.{length-filter_both}
use Rattle.std.proofs.lemmas.Grind.{common_steps}
use Rattle.terms.specs.declared.lot.Lot.{Lot}
use Rattle.book.specs.Meaning.{Meaning}
use Rattle.orders.specs.declared.order.Order.{Order}
use Rattle.accounts.specs.declared.state.AccountState.{AccountState}
use Rattle.accounts.specs.declared.standing.Standing.{Standing}
use Rattle.accounts.specs.Review.{cleared}
use Rattle.reviews.specs.Reviews.{judged, orders_spared}
use Rattle.rules.specs.State.{State, valued}
use Rattle.rules.specs.Valuation.{spot_of, mark_of, standing, reviewed, call_cleared}

-- the ledger s with these states and orders, and so many order slots
abbrev pub with_both : (ℕ → AccountState) → List Order → ℕ → State → State
with_both states orders slots s = record { settings = s.settings; time = s.time; spot = s.spot; last = s.last; halt = s.halt; issued = s.issued; states = states; lots = s.lots; orders = orders; lot_slots = s.lot_slots; order_slots = slots }

pub alike : (s : State) {f g : ℕ → AccountState} {os ps : List Order} {m n : ℕ} → f ≡ g → os ≡ ps → m ≡ n → with_both f os m s ≡ with_both g ps n s
alike s {f} {g} {os} {ps} {m} {n} p q r =
    ap (λ (x : ℕ → AccountState). with_both x os m s) p ∙ ap (λ (x : List Order). with_both g x m s) q ∙ ap (λ (x : ℕ). with_both g ps x s) r

module _ (m : Meaning) (s : State) (percent spot mark : ℕ) (per : percent ≡ s.settings.margin_percent) (at : spot ≡ spot_of s) (by : mark ≡ mark_of s) where
  by_states : {T : Type 0} (f : (percent spot mark : ℕ) → T) → f percent spot mark ≡ f s.settings.margin_percent (spot_of s) (mark_of s)
  by_states f = rw (per, at, by)

  pub is_reviewed : (states : ℕ → AccountState) (orders : List Order) (slots : ℕ)
      → ((a : ℕ) → states a ≡ (judged m percent spot mark s.lots s.orders s.states a).state)
      → orders ≡ orders_spared m percent spot mark s.lots s.orders s.states
      → slots ≡ s.order_slots
      → with_both states orders slots s ≡ reviewed m s
  unfolding reviewed
  is_reviewed states orders slots put left same =
      alike s
      (fun_ext (λ a. put a ∙ by_states (λ (p x y : ℕ). (judged m p x y s.lots s.orders s.states a).state)))
      (left ∙ by_states (λ (p x y : ℕ). orders_spared m p x y s.lots s.orders s.states))
      same

pub is_cleared : (a : ℕ) (m : Meaning) (s : State) (states : ℕ → AccountState) (state : AccountState) (now : Standing)
    → state ≡ cleared (s.states a) now → now ≡ standing s m a
    → ((k : ℕ) → states k ≡ cond (eqb a k) state (s.states k))
    → with_both states s.orders s.order_slots s ≡ call_cleared a m s
unfolding call_cleared
is_cleared a m s states state now is stands put =
    alike s (fun_ext (λ k. put k ∙ ap (λ (x : AccountState). cond (eqb a k) x (s.states k)) (is ∙ ap (cleared (s.states a)) stands))) refl refl

-- a review keeps no more orders than there were
pub fewer_left : (m : Meaning) (percent spot mark : ℕ) (s : State) → length (orders_spared m percent spot mark s.lots s.orders s.states) ≤ length s.orders
fewer_left m percent spot mark s =
    let keeps : Order → Bool = λ (o : Order). not (judged m percent spot mark s.lots s.orders s.states o.account).void in
    omega (arith, length-filter_both keeps (λ (o : Order). not (keeps o)) (λ o. refl) s.orders)

-- prices stay in force for fewer orders, and for one more once there is spot
pub valued_kept : (keeps : Order → Bool) (spot last : Option ℕ) (lots : List Lot) (orders : List Order) → valued spot last lots orders ≡ true → valued spot last lots (filter keeps orders) ≡ true
valued_kept keeps spot last lots [] h = h
valued_kept keeps spot last lots (o ∷ os) h = grind (arith, common_steps)

pub valued_more : (spot last : Option ℕ) (lots : List Lot) (orders more : List Order) → is_some spot ≡ true → valued spot last lots orders ≡ true → valued spot last lots more ≡ true
valued_more spot last lots orders more e h = grind (arith, common_steps)
