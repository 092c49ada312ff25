use Rattle.std.proofs.Common.{◌≡◌, ℕ, ◌^◌, ◌<◌, ◌≤◌, ℤ, pos, ◌*ℤ◌, nat_abs, arith, w64, SFits, to_z, of_z}
use lib.Signed.{quot_z}
use mir.Syntax.{w128}
use Rattle.std.proofs.lemmas.Nat.{mul-le}
use Rattle.std.proofs.lemmas.Int.{to_z-of_z, to_z_pos, ints}
use Rattle.terms.specs.Closing.{share}
use Rattle.terms.proofs.Signs.{back}
use Rattle.terms.proofs.Divisions.{nat_abs_times}
use Rattle.terms.proofs.Shares.{share_near, share_fits}
use Rattle.terms.proofs.closing.share_of.Goals as goal

-- a charge of 64 bits times units of 32, in 128 bits
module _ (f : ℤ) (c q : ℕ) (fits : SFits w64 f) (hc : c < 2 ^ 32) (hq : q < 2 ^ 32) (part : c ≤ q) where
  size : nat_abs f ≤ 2 ^ 63
  size = omega (arith, ints, fits)

  product : nat_abs (f *ℤ pos c) < 2 ^ 127
  product = omega (arith, nat_abs_times f c, mul-le (nat_abs f) c (2 ^ 63) (2 ^ 32) size (omega arith))

  factors : to_z w128 (of_z w128 (to_z w64 (of_z w64 f))) *ℤ to_z w128 c ≡ f *ℤ pos c
  factors =
      let h : c < 2 ^ 127 = omega arith in
      rw (to_z-of_z w64 f fits, back w128 f (omega (arith, size)), to_z_pos w128 c h)

  shared : to_z w128 (of_z w128 (quot_z (to_z w128 (of_z w128 (to_z w128 (of_z w128 (to_z w64 (of_z w64 f))) *ℤ to_z w128 c))) (to_z w128 q))) ≡ share f c q
  unfolding share
  shared =
      let h : q < 2 ^ 127 = omega arith in
      rw (factors, back w128 (f *ℤ pos c) product, to_z_pos w128 q h)
      (back w128 (share f c q) (omega (arith, share_near f c q part, size)))

pub overflow_cast-result-2 : goal.overflow_cast-result-2
overflow_cast-result-2 c =
    let f = c.args.charge in
    let q = c.args.quantity in
    rw (shared f c.args.closed q c.ranges.charge (omega arith) (omega arith) c.requires.part) (share_fits f c.args.closed q c.requires.part c.ranges.charge)

pub returns : goal.returns
returns c =
    let f = c.args.charge in
    let x = c.args.closed in
    let q = c.args.quantity in
    rw (
      shared f x q c.ranges.charge (omega arith) (omega arith) c.requires.part,
      to_z-of_z w64 (share f x q) (share_fits f x q c.requires.part c.ranges.charge),
    )
