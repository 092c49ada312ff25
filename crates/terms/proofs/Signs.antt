-- Signed numbers: their size, and what 64 bits hold of them.
-- The library counts sizes by `omega (arith, ints)` and tells nothing of the size of a product.
use Rattle.std.proofs.Common.{◌≡◌, ℕ, suc, ◌+◌, ◌*◌, ◌^◌, ◌<◌, ◌≤◌, ℤ, pos, negsuc, ◌+ℤ◌, ◌-ℤ◌, ◌*ℤ◌, neg_ℤ, nat_abs, refl, arith, SFits, to_z, of_z}
use mir.Val.{hbits}
use mir.Syntax.{Width}
use Rattle.std.proofs.lemmas.Int.{ints, to_z-of_z, to_z_pos}

pub nat_abs_add : (a b : ℤ) → nat_abs (a +ℤ b) ≤ nat_abs a + nat_abs b
nat_abs_add a b = omega (arith, ints)

pub nat_abs_sub : (a b : ℤ) → nat_abs (a -ℤ b) ≤ nat_abs a + nat_abs b
nat_abs_sub a b = omega (arith, ints)

pub nat_abs_neg : (a : ℤ) → nat_abs (neg_ℤ a) ≡ nat_abs a
nat_abs_neg a = omega (arith, ints)

pub nat_abs_mul : (n : ℕ) (z : ℤ) → nat_abs (pos n *ℤ z) ≡ n * nat_abs z
nat_abs_mul n (pos m) = refl
nat_abs_mul n (negsuc m) = nat_abs_neg (pos (n * suc m))

-- a number whose size is known fits its width, and comes back from its bits
pub sfits_by : (w : Width) (z : ℤ) → nat_abs z < 2 ^ hbits w → SFits w z
sfits_by w (pos n) h = record { sfits = h }
sfits_by w (negsuc n) h = record { sfits = omega arith }

pub back : (w : Width) (z : ℤ) → nat_abs z < 2 ^ hbits w → to_z w (of_z w z) ≡ z
back w z h = to_z-of_z w z (sfits_by w z h)

-- an unsigned number, cast and negated
pub negated : (w : Width) (n : ℕ) → n < 2 ^ hbits w → to_z w (of_z w (pos 0 -ℤ to_z w n)) ≡ neg_ℤ (pos n)
negated w n h =
    let e : pos 0 -ℤ pos n ≡ neg_ℤ (pos n) = omega (arith, ints) in
    rw (to_z_pos w n h, e, back w (neg_ℤ (pos n)) (omega (arith, nat_abs_neg (pos n))))

-- a sum as the code computes it: x is known to be a, and y to be b
pub summed : (w : Width) (a b x y : ℤ) → x ≡ a → y ≡ b → nat_abs (a +ℤ b) < 2 ^ hbits w → to_z w (of_z w (x +ℤ y)) ≡ a +ℤ b
summed w a b x y e f h = rw (e, f, back w (a +ℤ b) h)
