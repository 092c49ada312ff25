-- The timetable, case by case.
use Rattle.std.proofs.Common.{◌≡◌, ℕ, ◌+◌, ◌-◌, ◌*◌, ◌/◌, ◌%◌, ◌<◌, ◌≤◌, ltb, Some, None, refl, arith}
use Rattle.std.proofs.lemmas.Bool.{cond_both, ltb-true, ltb-false}
use Rattle.std.proofs.lemmas.Bool.Decides.{nat_tests}
use Rattle.terms.specs.declared.moments.Moment.{Moment}
use Rattle.terms.specs.declared.moments.Moment.TheVariants.{Funding, Deadline, Rollover}
use Rattle.terms.specs.declared.moments.Due.{Due}
use Rattle.terms.specs.Moments.{due, timetable, upcoming, on_day, next_due, scheduled, Next, NextDueIsNext}

-- what holds of each upcoming moment where it is the one, holds of the upcoming moment
pub by_moment : (s : ℕ) (P : Due → Type 0)
    → (s < 21600 → P (due 21600 Funding))
    → (21600 ≤ s → s < 50400 → P (due 50400 Funding))
    → (50400 ≤ s → s < 61200 → P (due 61200 Deadline))
    → (61200 ≤ s → s < 64800 → P (due 64800 Rollover))
    → (64800 ≤ s → s < 79200 → P (due 79200 Funding))
    → (79200 ≤ s → P (due 108000 Funding))
    → P (upcoming timetable s)
by_moment s P a b c d e f =
    cond_both (ltb s 21600) _ _ P (λ h. a (ltb-true s 21600 h)) (λ h₁.
    cond_both (ltb s 50400) _ _ P (λ h. b (ltb-false s 21600 h₁) (ltb-true s 50400 h)) (λ h₂.
    cond_both (ltb s 61200) _ _ P (λ h. c (ltb-false s 50400 h₂) (ltb-true s 61200 h)) (λ h₃.
    cond_both (ltb s 64800) _ _ P (λ h. d (ltb-false s 61200 h₃) (ltb-true s 64800 h)) (λ h₄.
    cond_both (ltb s 79200) _ _ P (λ h. e (ltb-false s 64800 h₄) (ltb-true s 79200 h)) (λ h₅. f (ltb-false s 79200 h₅))))))

-- the moment a of the timetable on day n is the next one after second s of that day
next_by : (time n s a : ℕ) (m : Moment) → time ≡ n * 86400 + s → s < a → a < 86400 → scheduled timetable a ≡ Some m
    → ((v : ℕ) → s < v → v < a → scheduled timetable v ≡ None) → Next time (on_day n (due a m))
next_by time n s a m e below inside is none =
    let r : (n * 86400 + a) % 86400 ≡ a = omega arith in
    record {
      later = omega arith;
      is_due = rw r is;
      none_between = λ u h k.
          let v : u % 86400 ≡ u - n * 86400 = omega arith in
          rw v (none (u - n * 86400) (omega arith) (omega arith));
    }

pub next_is_next : NextDueIsNext
unfolding next_due
next_is_next time =
    let n = time / 86400 in
    let s = time % 86400 in
    let e : time ≡ n * 86400 + s = omega arith in
    by_moment s (λ d. Next time (on_day n d))
    (λ h. next_by time n s 21600 Funding e h (omega arith) refl (λ v p q. grind (arith, nat_tests)))
    (λ l h. next_by time n s 50400 Funding e h (omega arith) refl (λ v p q. grind (arith, nat_tests)))
    (λ l h. next_by time n s 61200 Deadline e h (omega arith) refl (λ v p q. grind (arith, nat_tests)))
    (λ l h. next_by time n s 64800 Rollover e h (omega arith) refl (λ v p q. grind (arith, nat_tests)))
    (λ l h. next_by time n s 79200 Funding e h (omega arith) refl (λ v p q. grind (arith, nat_tests)))
    (λ l.
    let r : (n * 86400 + 108000) % 86400 ≡ 21600 = omega arith in
    record {
      later = omega arith;
      is_due = rw r refl;
      none_between = λ u h k. grind (arith, nat_tests);
    })
