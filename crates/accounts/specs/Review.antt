-- What a review decides of an account, and when a call for margin is cleared.
use Rattle.std.specs.Prelude.{◌≡◌, ℕ, Bool, true, false, cond, not, ◌&&◌, ◌||◌, ◌==◌, nat_lt}
use Rattle.terms.specs.Margins.{short_of, at_cut_level}
use Rattle.accounts.specs.declared.state.AccountState.{AccountState}
use Rattle.accounts.specs.declared.state.AccountState.TheVariants.{Sound, Called, CutDue, CutInHand, CutOut}
use Rattle.accounts.specs.declared.standing.Standing.{Standing}
use Rattle.accounts.specs.declared.standing.Decision.{Decision}

-- only sound and called accounts are reviewed
abbrev pub is_open : AccountState → Bool
is_open Sound = true
is_open (Called d s) = true
is_open CutDue = false
is_open (CutInHand n) = false
is_open CutOut = false

abbrev pub is_sound : AccountState → Bool
is_sound Sound = true
is_sound (Called d s) = false
is_sound CutDue = false
is_sound (CutInHand n) = false
is_sound CutOut = false

-- with lots, and equity at most 50 × the requirement
abbrev pub falls : Standing → Bool
falls s = nat_lt 0 s.units && at_cut_level s.equity s.requirement

-- margin above nought, and equity below 100 × the margin
abbrev pub lacks : Standing → Bool
lacks s = nat_lt 0 s.margin && short_of s.equity s.margin

abbrev pub decide : AccountState → Bool → Decision
decide state void = record { state = state; void = void }

-- account 2, the proprietary one, is passed over
abbrev pub reviewed : ℕ → AccountState → Standing → Decision
reviewed a state s = cond (a == 2 || not (is_open state)) (decide state false) (cond (falls s) (decide CutDue true) (decide state (lacks s)))

abbrev pub cleared : AccountState → Standing → AccountState
cleared Sound s = Sound
cleared (Called d f) s = cond (s.units == 0 || not (short_of s.equity s.requirement)) Sound (Called d f)
cleared CutDue s = CutDue
cleared (CutInHand n) s = CutInHand n
cleared CutOut s = CutOut

abbrev pub ReviewingTwiceIsOnce : Type 0
ReviewingTwiceIsOnce = (a : ℕ) (state : AccountState) (s : Standing) → (reviewed a (reviewed a state s).state s).state ≡ (reviewed a state s).state

abbrev pub ReviewsLeaveTheRest : Type 0
ReviewsLeaveTheRest = (a : ℕ) (state : AccountState) (s : Standing) → is_open state ≡ false → reviewed a state s ≡ decide state false
