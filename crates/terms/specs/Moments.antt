-- The due moments of a day.
use Rattle.std.specs.Prelude.{◌≡◌, ℕ, ◌+◌, ◌*◌, ◌/◌, ◌%◌, ◌<◌, cond, List, [], ◌∷◌, Some, None, Option, ◌==◌, nat_le, nat_lt}
use Rattle.terms.specs.declared.moments.Moment.{Moment}
use Rattle.terms.specs.declared.moments.Moment.TheVariants.{Funding, Deadline, Rollover}
use Rattle.terms.specs.declared.moments.Due.{Due}

abbrev pub day_length : ℕ
day_length = 86400

abbrev pub day : ℕ → ℕ
day time = time / day_length

abbrev pub due : ℕ → Moment → Due
due at moment = record { at = at; moment = moment }

-- 06:00, 14:00, 17:00, 18:00 and 22:00
abbrev pub timetable : List Due
timetable = due 21600 Funding ∷ due 50400 Funding ∷ due 61200 Deadline ∷ due 64800 Rollover ∷ due 79200 Funding ∷ []

-- the first of the list that lies after a second of the day, or the first one of the next day
abbrev pub upcoming : List Due → ℕ → Due
upcoming [] second = due (day_length + 21600) Funding
upcoming (d ∷ ds) second = cond (nat_lt second d.at) d (upcoming ds second)

-- so many days later
abbrev pub on_day : ℕ → Due → Due
on_day n d = due (n * day_length + d.at) d.moment

-- the next due moment after a time
unfoldable pub next_due : ℕ → Due
next_due time = on_day (day time) (upcoming timetable (time % day_length))

-- the same, if it comes by the end
abbrev pub due_by : ℕ → ℕ → Option Due
due_by time end = cond (nat_le (next_due time).at end) (Some (next_due time)) None

-- what is due at a time, if anything
abbrev pub scheduled : List Due → ℕ → Option Moment
scheduled [] second = None
scheduled (d ∷ ds) second = cond (d.at == second) (Some d.moment) (scheduled ds second)

abbrev pub due_at : ℕ → Option Moment
due_at time = scheduled timetable (time % day_length)

-- d is the next due moment after a time: later, due, and nothing is due between
pub record Next (time : ℕ) (d : Due) : Type 0 where
  pub later : time < d.at
  pub is_due : due_at d.at ≡ Some d.moment
  pub none_between : (u : ℕ) → time < u → u < d.at → due_at u ≡ None

abbrev pub NextDueIsNext : Type 0
NextDueIsNext = (time : ℕ) → Next time (next_due time)
