use Rattle.std.proofs.Common.{◌≡◌, ℕ, ◌<◌, ℤ, ◌-ℤ◌, ap, ◌∙◌, arith, w64, SFits, to_z, of_z}
use Rattle.std.proofs.lemmas.Int.{ints, to_z-of_z}
use Rattle.terms.specs.Closing.{share}
use Rattle.terms.proofs.Shares.{share_near, rest_near, rest_fits, share_bounded, rest_bounded, share_all}
use Rattle.terms.proofs.closing.split_charge.Goals as goal

-- the share as the code has it
told : (f s : ℤ) (x q : ℕ) → SFits w64 f → SFits w64 s → s ≡ share (to_z w64 (of_z w64 f)) x q → to_z w64 (of_z w64 s) ≡ share f x q
told f s x q h k e = to_z-of_z w64 s k ∙ e ∙ ap (λ (z : ℤ). share z x q) (to_z-of_z w64 f h)

pub returns : goal.returns
returns c =
    let f = c.args.charge in
    let x = c.args.closed in
    let q = c.args.quantity in
    let s = c.share_of-share.result in
    let one = told f s x q c.ranges.charge (record { sfits = c.share_of-share.type_inv }) c.share_of-share.ensures in
    let two : to_z w64 (of_z w64 (to_z w64 (of_z w64 f) -ℤ to_z w64 (of_z w64 s))) ≡ f -ℤ share f x q =
    rw (to_z-of_z w64 f c.ranges.charge, one, to_z-of_z w64 (f -ℤ share f x q) (rest_fits f x q c.requires.part c.ranges.charge)) in
    record {
      share = one;
      rest = two;
      sum = rw (two, one) (omega (arith, ints));
      near = (rw one (share_near f x q c.requires.part), rw two (rest_near f x q c.requires.part));
      bounded = λ limit b.
          let h : 0 < q = omega (arith, c.requires.some) in
          (rw one (share_bounded f x q limit h c.requires.part b), rw two (rest_bounded f x q limit h c.requires.part b));
      all = λ e.
          let h : 0 < q = omega (arith, c.requires.some) in
          let whole : share f x q ≡ f = ap (λ (n : ℕ). share f n q) e ∙ share_all f q h in
          (one ∙ whole, two ∙ omega (arith, ints));
    }
