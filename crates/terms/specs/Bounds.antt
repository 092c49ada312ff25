-- How far a lot's charge can be from nought, by the time that has passed.
use Rattle.std.specs.Prelude.{ℕ, ◌+◌, ◌-◌, ◌*◌, ◌%◌, ◌<◌, ◌≤◌, cond, List, [], ◌∷◌, ℤ, ◌+ℤ◌, ◌-ℤ◌, nat_le, unsigned_abs}
use Rattle.terms.specs.declared.settings.Settings.{Settings}
use Rattle.terms.specs.declared.side.Side.{Side}
use Rattle.terms.specs.Ranges.{last_time, price_max, position_max, transfer_max}
use Rattle.terms.specs.Charges.{added}
use Rattle.terms.specs.Closing.{share, settlement}
use Rattle.terms.specs.declared.moments.Moment.{Moment}
use Rattle.terms.specs.declared.moments.Moment.TheVariants.{Funding, Deadline, Rollover}
use Rattle.terms.specs.declared.moments.Due.{Due}
use Rattle.terms.specs.Moments.{day, day_length, timetable, next_due}

-- yen that a moment can add for one unit
abbrev pub weight : Moment → ℕ
weight Funding = 4000
weight Deadline = 0
weight Rollover = 1000

-- what the moments up to a second of the day can have added
abbrev pub weights : List Due → ℕ → ℕ
weights [] second = 0
weights (d ∷ ds) second = cond (nat_le d.at second) (weight d.moment) 0 + weights ds second

-- yen for one unit up to a time: 13,000 for each whole day, and today's so far
unfoldable pub charge_limit : ℕ → ℕ
charge_limit time = 13000 * day time + weights timetable (time % day_length)

-- the charge of a lot is within what the time can have put on it
abbrev pub Bounded : (time : ℕ) (charge : ℤ) (quantity : ℕ) → Type 0
Bounded time charge quantity = unsigned_abs charge ≤ charge_limit time * quantity

-- the next due moment keeps the bound, and so does time that passes
pub record MomentsKeepTheBound : Type 0 where
  pub next : (set : Settings) (spot last : ℕ) → spot ≤ price_max → (time : ℕ) (charge : ℤ) (s : Side) (quantity : ℕ) → Bounded time charge quantity
      → Bounded (next_due time).at (charge +ℤ added set spot last (next_due time).moment s quantity) quantity
  pub later : (time end : ℕ) → time ≤ end → (charge : ℤ) (quantity : ℕ) → Bounded time charge quantity → Bounded end charge quantity

-- closing c of q units keeps it on what stays, and bounds the share
pub record ClosingKeepsTheBound : Type 0 where
  pub rest : (time : ℕ) (charge : ℤ) (c q : ℕ) → 0 < q → c ≤ q → Bounded time charge q → Bounded time (charge -ℤ share charge c q) (q - c)
  pub part : (time : ℕ) (charge : ℤ) (c q : ℕ) → 0 < q → c ≤ q → Bounded time charge q → Bounded time (share charge c q) c

-- so a settlement is a lawful transfer, at any time and of any quantity
abbrev pub SettlementsAreLawful : Type 0
SettlementsAreLawful =
    (time : ℕ) → time ≤ last_time → (s : Side) (opening price : ℕ) → opening ≤ price_max → price ≤ price_max → (charge : ℤ) (c q : ℕ) → 0 < q → c ≤ q → q ≤ position_max
    → Bounded time charge q → unsigned_abs (settlement s opening price c (share charge c q)) ≤ transfer_max
