-- Shares of a charge: their size, and what bounds they keep.
use Rattle.std.proofs.Common.{◌≡◌, ℕ, ◌+◌, ◌-◌, ◌*◌, ◌/◌, ◌<◌, ◌≤◌, ℤ, pos, negsuc, ◌-ℤ◌, ◌*ℤ◌, nat_abs, sym, ap, ◌∙◌, ⊎_elim, mul_assoc, mul_comm, add-mul, mul-le-mul_left, zero-mul, mul-add, mul-div_cancel, arith, w64, SFits}
use borrow.Author.Differences.{up, down, ints, same_in, product_is, quot_is}
use Rattle.std.proofs.lemmas.Nat.{mul-le, le-div}
use Rattle.terms.specs.Closing.{share}
use Rattle.std.proofs.lemmas.Bool.{cases_lt}
use Rattle.terms.proofs.Divisions.{div_at_most, nat_abs_quot, nat_abs_times}

-- one part of z is nought
parts : (z : ℤ) → (nat_abs z ≡ up z + down z)
parts (pos n) = omega arith
parts (negsuc n) = omega arith

-- what lies between nought and a number of 64 bits fits them too
fits_under : (f z : ℤ) → SFits w64 f → up z ≤ up f → down z ≤ down f → SFits w64 z
fits_under (pos n) (pos m) h u d = record { sfits = omega (arith, h.sfits) }
fits_under (pos n) (negsuc m) h u d = absurd (omega arith)
fits_under (negsuc n) (pos m) h u d = record { sfits = omega arith }
fits_under (negsuc n) (negsuc m) h u d = record { sfits = omega (arith, h.sfits) }

module _ (f : ℤ) (c q : ℕ) where
  pub share_up : up (share f c q) ≡ up f * c / q
  unfolding share
  share_up = (quot_is (f *ℤ pos c) q).0 ∙ ap (λ (n : ℕ). n / q) (omega (arith, product_is f (pos c)))

  pub share_down : down (share f c q) ≡ down f * c / q
  unfolding share
  share_down = (quot_is (f *ℤ pos c) q).1 ∙ ap (λ (n : ℕ). n / q) (omega (arith, product_is f (pos c)))

  module _ (part : c ≤ q) where
    -- between nought and the charge
    pub share_below : (up (share f c q) ≤ up f) × (down (share f c q) ≤ down f)
    share_below = (
      rw share_up (div_at_most (up f * c) q (up f) (mul-le-mul_left (up f) part)),
      rw share_down (div_at_most (down f * c) q (down f) (mul-le-mul_left (down f) part)),
    )

    pub share_near : nat_abs (share f c q) ≤ nat_abs f
    share_near = omega (arith, parts f, parts (share f c q), share_below)

    rest_below : (up (f -ℤ share f c q) ≤ up f) × (down (f -ℤ share f c q) ≤ down f)
    rest_below =
        let p = parts f in
        let r = parts (share f c q) in
        let t = parts (f -ℤ share f c q) in
        let b = share_below in
        (omega (arith, ints), omega (arith, ints))

    pub share_fits : SFits w64 f → SFits w64 (share f c q)
    share_fits h = fits_under f (share f c q) h share_below.0 share_below.1

    pub rest_fits : SFits w64 f → SFits w64 (f -ℤ share f c q)
    rest_fits h = fits_under f (f -ℤ share f c q) h rest_below.0 rest_below.1

    pub rest_near : nat_abs (f -ℤ share f c q) ≤ nat_abs f
    rest_near = omega (arith, parts f, parts (f -ℤ share f c q), rest_below)

-- closing all takes all
pub share_all : (f : ℤ) (q : ℕ) → 0 < q → share f q q ≡ f
share_all f q h =
    let u = share_up f q q ∙ mul-div_cancel (up f) h in
    let d = share_down f q q ∙ mul-div_cancel (down f) h in
    same_in (share f q q) f (omega arith)

-- what stays and the share make up the charge, in size too
whole : (f : ℤ) (c q : ℕ) → c ≤ q → nat_abs (f -ℤ share f c q) + nat_abs (share f c q) ≡ nat_abs f
whole f c q part =
    let p = parts f in
    let r = parts (share f c q) in
    let t = parts (f -ℤ share f c q) in
    let b = share_below f c q part in
    omega (arith, ints)

swapped : (a b c : ℕ) → a * b * c ≡ a * c * b
swapped a b c = mul_assoc a b c ∙ ap (λ (n : ℕ). a * n) (mul_comm b c) ∙ sym (mul_assoc a c b)

-- of a, at most L for each of c + d units, the share of c leaves at most L for each of d
left_over : (a c d L : ℕ) → 0 < c + d → a ≤ L * (c + d) → a ≤ a * c / (c + d) + L * d
left_over a c d L some bound =
    let q = c + d in
    let m = a - L * d in
    let one : a * d ≤ L * d * q = omega (arith, mul-le a d (L * q) d bound (omega arith), swapped L q d) in
    let two : m * q ≤ a * c =
    ⊎_elim
    (λ (h : a < L * d). let z : m ≡ 0 = omega arith in rw (z, zero-mul q) (omega arith))
    (λ (h : L * d ≤ a).
    let e : m + L * d ≡ a = omega arith in
    let f = sym (add-mul m (L * d) q) ∙ ap (λ (n : ℕ). n * q) e in
    let g = mul-add a c d in
    omega arith)
    (cases_lt a (L * d)) in
    omega (arith, le-div m (a * c) q some two)

-- a bound for each unit is kept, on the share and on what stays
module _ (f : ℤ) (c q L : ℕ) (some : 0 < q) (part : c ≤ q) (bound : nat_abs f ≤ L * q) where
  size : nat_abs (share f c q) ≡ nat_abs f * c / q
  unfolding share
  size = nat_abs_quot (f *ℤ pos c) q ∙ ap (λ (n : ℕ). n / q) (nat_abs_times f c)

  pub share_bounded : nat_abs (share f c q) ≤ L * c
  share_bounded = rw size (div_at_most (nat_abs f * c) q (L * c) (omega (arith, mul-le (nat_abs f) c (L * q) c bound (omega arith), swapped L q c)))

  pub rest_bounded : nat_abs (f -ℤ share f c q) ≤ L * (q - c)
  rest_bounded =
      let e : c + (q - c) ≡ q = omega arith in
      let h : nat_abs f ≤ nat_abs f * c / q + L * (q - c) = rw e at (left_over (nat_abs f) c (q - c) L (omega arith) (rw e bound)) in
      omega (arith, whole f c q part, size)
