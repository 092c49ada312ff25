use Rattle.std.proofs.Common.{◌≡◌, ◌≤◌, ℤ, pos, ◌-ℤ◌, ◌*ℤ◌, nat_abs, ap, ◌∙◌, arith, w64, to_z, of_z}
use Rattle.terms.specs.Closing.{sided, settlement}
use Rattle.terms.proofs.Signs.{back, nat_abs_mul, nat_abs_sub}
use Rattle.terms.proofs.closing.settlement.Goals as goal

pub returns-clause-value : goal.returns-clause-value
unfolding settlement
returns-clause-value c =
    let g = c.gain.result in
    let f = c.args.share in
    let cost : nat_abs (pos 100 *ℤ f) ≤ 71240000000000 = omega (arith, nat_abs_mul 100 f, c.requires.share) in
    let near : nat_abs (g -ℤ pos 100 *ℤ f) ≤ 76240000000000 = omega (arith, nat_abs_sub g (pos 100 *ℤ f), c.gain.ensures.bound) in
    let v : to_z w64 (of_z w64 (to_z w64 (of_z w64 g) -ℤ to_z w64 (of_z w64 (pos 100 *ℤ to_z w64 (of_z w64 f))))) ≡ g -ℤ pos 100 *ℤ f =
    rw (back w64 f (omega (arith, c.requires.share)), back w64 g (omega (arith, c.gain.ensures.bound)), back w64 (pos 100 *ℤ f) (omega arith), back w64 (g -ℤ pos 100 *ℤ f) (omega arith)) in
    v ∙ ap (λ (z : ℤ). z -ℤ pos 100 *ℤ f) (c.gain.ensures.value ∙ ap (sided c.args.side) (back w64 c.rise.result (omega (arith, c.rise.ensures.bound)) ∙ c.rise.ensures.value))
