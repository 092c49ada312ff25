use Rattle.std.proofs.Common.{◌≡◌, ℕ, cond, nat_lt, Bool, true, false, List, [], ◌∷◌, Some, Option, refl, ap, ◌∙◌}
use Rattle.std.specs.Option.{unwrap_or}
use Rattle.std.specs.List.{find}
use Rattle.terms.specs.declared.moments.Moment.TheVariants.{Funding}
use Rattle.terms.specs.declared.moments.Due.{Due}
use Rattle.terms.specs.Moments.{due, upcoming, timetable}
use Rattle.terms.proofs.calendar.upcoming.Goals as goal

found_or : (b : Bool) (d e : Due) (o : Option Due) → unwrap_or (cond b (Some d) o) e ≡ cond b d (unwrap_or o e)
found_or true d e o = refl
found_or false d e o = refl

first_or : (ds : List Due) (s : ℕ) → unwrap_or (find (λ d. nat_lt s d.at) ds) (due 108000 Funding) ≡ upcoming ds s
first_or [] s = refl
first_or (d ∷ ds) s = found_or (nat_lt s d.at) d _ _ ∙ ap (cond (nat_lt s d.at) d) (first_or ds s)

pub returns : goal.returns
returns c = c.unwrap_or.ensures ∙ ap (λ o. unwrap_or o (due 108000 Funding)) c.first_after.ensures ∙ first_or timetable c.args.second
