-- What keeps a lot's charge within its limit.
use Rattle.std.proofs.Common.{◌≡◌, ℕ, zero, suc, ◌+◌, ◌*◌, ◌/◌, ◌%◌, ◌<◌, ◌≤◌, min, cond, leb, List, [], ◌∷◌, ℤ, pos, negsuc, ◌-ℤ◌, ◌*ℤ◌, nat_abs, sym, refl, ap, ◌∙◌, ⊎_elim, mul-le-mul_right, add-mul, arith}
use lib.Signed.{quot_z}
use Rattle.std.proofs.lemmas.Nat.{mul-le}
use Rattle.std.proofs.lemmas.Int.{ints}
use Rattle.std.proofs.lemmas.Bool.{cases_lt}
use Rattle.std.proofs.lemmas.Bool.Decides.{nat_tests}
use Rattle.terms.specs.declared.moments.Moment.{Moment}
use Rattle.terms.specs.declared.moments.Moment.TheVariants.{Funding, Deadline, Rollover}
use Rattle.terms.specs.declared.moments.Due.{Due}
use Rattle.terms.specs.declared.settings.Settings.{Settings}
use Rattle.terms.specs.declared.side.Side.{Side}
use Rattle.terms.specs.declared.side.Side.TheVariants.{Buy, Sell}
use Rattle.terms.specs.Rounding.{within}
use Rattle.terms.specs.Charges.{points, difference, paid, received, funding, added}
use Rattle.terms.specs.Closing.{share, sided, settlement}
use Rattle.terms.specs.Moments.{timetable, next_due}
use Rattle.terms.specs.Bounds.{weight, weights, charge_limit, MomentsKeepTheBound, ClosingKeepsTheBound, SettlementsAreLawful}
use Rattle.terms.proofs.Signs.{nat_abs_add, nat_abs_sub, nat_abs_neg, nat_abs_mul}
use Rattle.terms.proofs.Divisions.{div_at_most, ceiling_at_most}
use Rattle.terms.proofs.Shares.{share_bounded, rest_bounded}
use Rattle.terms.proofs.Timetable.{by_moment}

pub points_small : (rate spot q : ℕ) → rate ≤ 1000 → spot ≤ 100000000 → points rate spot q ≤ 1000 * q
unfolding points
points_small rate spot q h k = div_at_most (spot * q * rate) 100000000 (1000 * q) (omega (arith, mul-le (spot * q) rate (100000000 * q) 1000 (mul-le-mul_right q k) h))

pub within_near : (b : ℕ) (z : ℤ) → nat_abs (within b z) ≤ b
within_near b (pos n) = omega arith
within_near b (negsuc n) = rw (nat_abs_neg (pos (min (suc n) b))) (omega arith)

pub difference_small : (g k last spot : ℕ) → k ≤ 4000 → spot ≤ 100000000 → nat_abs (difference g k last spot) ≤ 400000
unfolding difference
difference_small g k last spot h s =
    let z = quot_z (pos last -ℤ pos spot) (pos g) in
    omega (arith, within_near (spot * k / 1000000) z, div_at_most (spot * k) 1000000 400000 (omega (arith, mul-le spot k 100000000 4000 s h)))

module _ (d : ℤ) (q : ℕ) (h : nat_abs d ≤ 400000) where
  product : nat_abs d * q ≤ 400000 * q
  product = mul-le-mul_right q h

  pub paid_small : paid d q ≤ 4000 * q
  unfolding paid
  paid_small = ceiling_at_most (nat_abs d * q) 100 (4000 * q) (omega arith) (omega (arith, product))

  pub received_small : received d q ≤ 4000 * q
  unfolding received
  received_small = div_at_most (nat_abs d * q) 100 (4000 * q) (omega (arith, product))

pub funding_small : (d : ℤ) (s : Side) (q : ℕ) → nat_abs d ≤ 400000 → nat_abs (funding d s q) ≤ 4000 * q
funding_small (pos zero) s q h = omega arith
funding_small (pos (suc n)) Buy q h = paid_small (pos (suc n)) q h
funding_small (pos (suc n)) Sell q h = rw (nat_abs_neg (pos (received (pos (suc n)) q))) (received_small (pos (suc n)) q h)
funding_small (negsuc n) Buy q h = rw (nat_abs_neg (pos (received (negsuc n) q))) (received_small (negsuc n) q h)
funding_small (negsuc n) Sell q h = paid_small (negsuc n) q h

pub added_small : (set : Settings) (spot last : ℕ) → spot ≤ 100000000 → (m : Moment) (s : Side) (q : ℕ) → nat_abs (added set spot last m s q) ≤ weight m * q
added_small set spot last h Rollover s q = points_small set.points_rate spot q set.rate h
added_small set spot last h Deadline s q = omega arith
added_small set spot last h Funding s q = funding_small (difference set.funding_divisor set.funding_cap last spot) s q (difference_small set.funding_divisor set.funding_cap last spot set.capped h)

sided_size : (s : Side) (z : ℤ) → nat_abs (sided s z) ≡ nat_abs z
sided_size Buy z = refl
sided_size Sell z = nat_abs_neg z

-- the limit at a second of a day
limit_at : (n a : ℕ) → a < 86400 → charge_limit (n * 86400 + a) ≡ 13000 * n + weights timetable a
unfolding charge_limit
limit_at n a h =
    let d : (n * 86400 + a) / 86400 ≡ n = omega arith in
    let r : (n * 86400 + a) % 86400 ≡ a = omega arith in
    rw (d, r)

-- the next moment raises the limit by its weight
pub limit_next : (time : ℕ) → charge_limit (next_due time).at ≡ charge_limit time + weight (next_due time).moment
unfolding next_due
limit_next time =
    let n = time / 86400 in
    let s = time % 86400 in
    let e : n * 86400 + s ≡ time = omega arith in
    let now : charge_limit time ≡ 13000 * n + weights timetable s = ap charge_limit (sym e) ∙ limit_at n s (omega arith) in
    by_moment s (λ d. charge_limit (n * 86400 + d.at) ≡ charge_limit time + weight d.moment)
    (λ h. let w : weights timetable s ≡ 0 = grind (arith, nat_tests) in limit_at n 21600 (omega arith) ∙ omega arith)
    (λ l h. let w : weights timetable s ≡ 4000 = grind (arith, nat_tests) in limit_at n 50400 (omega arith) ∙ omega arith)
    (λ l h. let w : weights timetable s ≡ 8000 = grind (arith, nat_tests) in limit_at n 61200 (omega arith) ∙ omega arith)
    (λ l h. let w : weights timetable s ≡ 8000 = grind (arith, nat_tests) in limit_at n 64800 (omega arith) ∙ omega arith)
    (λ l h. let w : weights timetable s ≡ 9000 = grind (arith, nat_tests) in limit_at n 79200 (omega arith) ∙ omega arith)
    (λ l.
    let w : weights timetable s ≡ 13000 = grind (arith, nat_tests) in
    let j : n * 86400 + 108000 ≡ (n + 1) * 86400 + 21600 = omega arith in
    ap charge_limit j ∙ limit_at (n + 1) 21600 (omega arith) ∙ omega arith)

weights_mono : (ds : List Due) (s u : ℕ) → s ≤ u → weights ds s ≤ weights ds u
weights_mono [] s u h = omega arith
weights_mono (d ∷ ds) s u h =
    let rest = weights_mono ds s u h in
    let one : cond (leb d.at s) (weight d.moment) 0 ≤ cond (leb d.at u) (weight d.moment) 0 = grind (arith, nat_tests) in
    omega arith

weights_max : (s : ℕ) → s < 86400 → weights timetable s ≤ 13000
weights_max s h = omega (arith, weights_mono timetable s 86400 (omega arith))

pub limit_later : (time end : ℕ) → time ≤ end → charge_limit time ≤ charge_limit end
unfolding charge_limit
limit_later time end h =
    ⊎_elim
    (λ (p : time / 86400 < end / 86400). omega (arith, weights_max (time % 86400) (omega arith)))
    (λ (p : end / 86400 ≤ time / 86400).
    let same : time / 86400 ≡ end / 86400 = omega arith in
    omega (arith, weights_mono timetable (time % 86400) (end % 86400) (omega arith)))
    (cases_lt (time / 86400) (end / 86400))

pub limit_max : (time : ℕ) → time ≤ 94694399 → charge_limit time ≤ 14248000
unfolding charge_limit
limit_max time h = omega (arith, weights_max (time % 86400) (omega arith))

-- ---- the laws
pub moments_keep : MomentsKeepTheBound
moments_keep = record {
  next = λ set spot last h time f s q b.
      let m = (next_due time).moment in
      let z = added set spot last m s q in
      let L = charge_limit time in
      rw (limit_next time) (omega (arith, nat_abs_add f z, added_small set spot last h m s q, add-mul L (weight m) q));
  later = λ time end h f q b. omega (arith, mul-le-mul_right q (limit_later time end h));
}

pub closing_keeps : ClosingKeepsTheBound
closing_keeps = record {
  rest = λ time f c q some part b. rest_bounded f c q (charge_limit time) some part b;
  part = λ time f c q some part b. share_bounded f c q (charge_limit time) some part b;
}

-- no price moves 50,000 units by more than this
pub rise_small : (s : Side) (c opening price : ℕ) → c ≤ 50000 → opening ≤ 100000000 → price ≤ 100000000 → nat_abs (sided s (pos c *ℤ (pos price -ℤ pos opening))) ≤ 5000000000000
rise_small s c opening price h o p =
    let apart : nat_abs (pos price -ℤ pos opening) ≤ 100000000 = omega (arith, ints) in
    let size : nat_abs (pos c *ℤ (pos price -ℤ pos opening)) ≤ 5000000000000 = rw nat_abs_mul (mul-le c (nat_abs (pos price -ℤ pos opening)) 50000 100000000 h apart) in
    omega (arith, sided_size s (pos c *ℤ (pos price -ℤ pos opening)))

pub settlements_lawful : SettlementsAreLawful
unfolding settlement
settlements_lawful time h s opening price o p f c q some part few b =
    let f' = share f c q in
    let gain = sided s (pos c *ℤ (pos price -ℤ pos opening)) in
    let size : nat_abs f' ≤ 712400000000 = omega (arith, share_bounded f c q (charge_limit time) some part b, mul-le (charge_limit time) c 14248000 50000 (limit_max time h) (omega arith)) in
    omega (arith, nat_abs_sub gain (pos 100 *ℤ f'), nat_abs_mul 100 f', rise_small s c opening price (omega arith) o p)
