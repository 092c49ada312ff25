-- A review over what a review left changes nothing more.
use Rattle.std.proofs.Common.{◌≡◌, ℕ, ◌+◌, ◌*◌, ◌<◌, ◌≤◌, Bool, false, cond, not, ◌&&◌, eqb, ltb, nat_lt, List, [], ◌∷◌, ℤ, pos, filter, sym, refl, ap, ◌∙◌, arith}
use lib.Signed.{lt_z}
use Rattle.std.proofs.lemmas.Int.{ints}
use Rattle.std.proofs.lemmas.Bool.{not-true, cond-true, cond_both, lt-ltb, ltb-true}
use Rattle.std.proofs.lemmas.Bool.Decides.{nat_tests}
use Rattle.std.proofs.lemmas.Grind.{common_steps}
use Rattle.slots.proofs.Every.{every_kept}
use Rattle.terms.specs.declared.lot.Lot.{Lot}
use Rattle.terms.specs.Margins.{requirement}
use Rattle.book.specs.Meaning.{Meaning}
use Rattle.orders.specs.declared.order.Order.{Order}
use Rattle.orders.specs.Margins.{margin_of}
use Rattle.orders.specs.Orders.{lawful_order}
use Rattle.accounts.specs.declared.state.AccountState.{AccountState}
use Rattle.accounts.specs.declared.standing.Decision.{Decision}
use Rattle.accounts.specs.declared.standing.Standing.{Standing}
use Rattle.accounts.specs.Review.{reviewed, falls, lacks}
use Rattle.accounts.specs.States.{state_of}
use Rattle.reviews.specs.Standings.{standing_of}
use Rattle.reviews.specs.Reviews.{judged, orders_spared, decided, orders_left, ReviewingAllTwiceIsOnce, JudgingAllTwiceIsOnce}
use Rattle.reviews.proofs.Kept.{kept_alike, kept_still, owned}

-- fewer orders need no more margin
pub margin_fewer : (keeps : Order → Bool) (a percent mark : ℕ) (os : List Order) → margin_of a percent mark (filter keeps os) ≤ margin_of a percent mark os
unfolding margin_of
margin_fewer keeps a percent mark [] = omega arith
margin_fewer keeps a percent mark (o ∷ os) = grind (arith, common_steps, nat_tests, margin_fewer keeps a percent mark os)

-- over standings that differ in margin alone
state_again : (a : ℕ) (st : AccountState) (s t : Standing) → falls t ≡ falls s → (reviewed a (reviewed a st s).state t).state ≡ (reviewed a st s).state
state_again a st s t e = grind (arith, common_steps)

void_again : (a : ℕ) (st : AccountState) (s t : Standing) → falls t ≡ falls s → (lacks s ≡ false → lacks t ≡ false) → (reviewed a st s).void ≡ false → (reviewed a (reviewed a st s).state t).void ≡ false
void_again a st s t e less h = grind (arith, common_steps)

covered_fewer : (a r n k : ℕ) (e : ℤ) → k ≤ n → (ltb 0 (cond (eqb a 2) 0 (r + n)) && lt_z e (pos (100 * cond (eqb a 2) 0 (r + n)))) ≡ false → (ltb 0 (cond (eqb a 2) 0 (r + k)) && lt_z e (pos (100 * cond (eqb a 2) 0 (r + k)))) ≡ false
covered_fewer a r n k e h lacks = grind (arith, ints, nat_tests)

-- over fewer of the orders, all of which a review keeps
pub judged_again : (m : Meaning) (p spot mark : ℕ) (ls : List Lot) (os left : List Order) (states after : ℕ → AccountState)
    → ((a : ℕ) → after a ≡ (judged m p spot mark ls os states a).state)
    → ((a : ℕ) → margin_of a p mark left ≤ margin_of a p mark os)
    → filter (λ (o : Order). not (judged m p spot mark ls os states o.account).void) left ≡ left
    → ((a : ℕ) → (judged m p spot mark ls left after a).state ≡ after a) × (orders_spared m p spot mark ls left after ≡ left)
judged_again m p spot mark ls os left states after put less kept =
    let due : ℕ → Decision = judged m p spot mark ls os states in
    let s : List Order → ℕ → Standing = standing_of m p spot mark ls in
    let again : Order → Bool = λ (o : Order). not (judged m p spot mark ls left after o.account).void in
    let stays = kept_still (λ (o : Order). not (due o.account).void) again
    (λ o spared.
    let a = o.account in
    let e : (judged m p spot mark ls left after a).void ≡ false =
    rw (put a) (void_again a (states a) (s os a) (s left a) refl (covered_fewer a (requirement p spot (s os a).units) (margin_of a p mark os) (margin_of a p mark left) (s os a).equity (less a)) (not-true (due a).void spared)) in
    ap not e)
    left in (λ a. rw (put a) (state_again a (states a) (s os a) (s left a) refl), ap (filter again) (sym kept) ∙ stays ∙ kept)

pub judged_twice : JudgingAllTwiceIsOnce
judged_twice m p spot mark ls os states after put =
    let spared : Order → Bool = λ (o : Order). not (judged m p spot mark ls os states o.account).void in
    judged_again m p spot mark ls os (filter spared os) states after put (λ a. margin_fewer spared a p mark os) (kept_still spared spared (λ o h. h) os)

-- the accounts past those that there are can be in any state, since no order is theirs
pub twice : ReviewingAllTwiceIsOnce
twice m p spot mark ls os accounts after put lawful =
    let due : ℕ → Decision = decided m p spot mark ls os accounts in
    let left = orders_left m p spot mark ls os accounts in
    let all : ℕ → AccountState = λ (a : ℕ). cond (nat_lt a 256) (state_of after a) (due a).state in
    let within : (a : ℕ) → a < 256 → all a ≡ state_of after a = λ a h. cond-true (nat_lt a 256) (state_of after a) (due a).state (lt-ltb a 256 h) in
    let once = judged_twice m p spot mark ls os (state_of accounts) all (λ a. cond_both (nat_lt a 256) (state_of after a) (due a).state (λ (x : AccountState). x ≡ (due a).state) (λ e. put a (ltb-true a 256 e)) (λ e. refl)) in
    let spared : (ℕ → AccountState) → Order → Bool = λ (states : ℕ → AccountState) (o : Order). not (judged m p spot mark ls left states o.account).void in (
      λ a h. rw (within a h) at (once.0 a),
      kept_alike lawful_order (spared (state_of after)) (spared all) (λ o fine. rw (within o.account (owned o fine)) refl) left (every_kept lawful_order (λ (o : Order). not (due o.account).void) os lawful) ∙ once.1,
    )
