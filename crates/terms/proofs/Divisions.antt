-- Quotients: how large they are, and what rounding up gives.
-- The library's `div_ceil` adds a unit where a remainder is left; `ceiling` divides once, so both are shown to be one.
use Rattle.std.proofs.Common.{◌≡◌, ℕ, zero, suc, ◌+◌, ◌-◌, ◌*◌, ◌/◌, ◌%◌, ◌<◌, ◌≤◌, min, ℤ, pos, negsuc, ◌*ℤ◌, nat_abs, sym, refl, mod-lt, mul_comm, add-mul, div-add-mod', arith}
use native.Mathlib.Nat.{div-eq_of_lt-le, div-le_of_le-mul}
use lib.Signed.{quot_z}
use Rattle.std.proofs.lemmas.Nat.{div_below}
use Rattle.terms.specs.Rounding.{ceiling}
use Rattle.terms.proofs.Signs.{nat_abs_neg}

-- a quotient that is at most b
pub div_at_most : (n d b : ℕ) → n ≤ b * d → n / d ≤ b
div_at_most n d b h = div-le_of_le-mul d (omega (arith, h, mul_comm b d))

-- with quotient q and remainder r
ceiling_by : (n d q r : ℕ) → q * d + r ≡ n → r < d → (n + (d - 1)) / d ≡ q + min 1 r
ceiling_by n d q zero e h =
    div-eq_of_lt-le d (omega (arith, add-mul q 0 d)) (omega (arith, add-mul (q + 0) 1 d, add-mul q 0 d))
ceiling_by n d q (suc r) e h =
    let one : min 1 (suc r) ≡ 1 = omega arith in
    rw one (div-eq_of_lt-le d (omega (arith, add-mul q 1 d)) (omega (arith, add-mul (q + 1) 1 d, add-mul q 1 d)))

-- rounding up is what `div_ceil` computes
pub ceiling_is : (n d : ℕ) → 0 < d → n / d + min 1 (n % d) ≡ ceiling n d
unfolding ceiling
ceiling_is n d h = sym (ceiling_by n d (n / d) (n % d) (div-add-mod' n d) (mod-lt n h))

pub ceiling_at_most : (n d b : ℕ) → 0 < d → n ≤ b * d → ceiling n d ≤ b
unfolding ceiling
ceiling_at_most n d b h k = omega (arith, div_below (n + (d - 1)) d (b + 1) h (omega (arith, add-mul b 1 d)))

-- the size of a product and of a quotient
pub nat_abs_times : (z : ℤ) (n : ℕ) → nat_abs (z *ℤ pos n) ≡ nat_abs z * n
nat_abs_times (pos m) n = refl
nat_abs_times (negsuc m) n = nat_abs_neg (pos (suc m * n))

pub nat_abs_quot : (z : ℤ) (n : ℕ) → nat_abs (quot_z z (pos n)) ≡ nat_abs z / n
nat_abs_quot (pos m) n = refl
nat_abs_quot (negsuc m) n = nat_abs_neg (pos (suc m / n))
