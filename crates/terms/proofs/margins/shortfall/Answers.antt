use Rattle.std.proofs.Common.{◌≡◌, ℕ, zero, suc, ◌*◌, ℤ, pos, negsuc, ◌-ℤ◌, nat_abs, leb, refl, ap, ◌∙◌, arith, w64}
use mir.Syntax.{w128}
use Rattle.std.specs.Int.{int_max}
use Rattle.std.proofs.lemmas.Int.{to_z-of_z}
use Rattle.std.proofs.lemmas.Bool.{cond-true, le-leb}
use Rattle.terms.specs.Rounding.{ceiling, above}
use Rattle.terms.specs.Margins.{shortfall}
use Rattle.terms.proofs.Divisions.{ceiling_is}
use Rattle.terms.proofs.margins.shortfall.Goals as goal

above_is : (z : ℤ) → nat_abs (int_max z (pos 0)) ≡ above z
above_is (pos zero) = refl
above_is (pos (suc n)) = ap nat_abs (cond-true (leb 1 (suc n)) (pos (suc n)) (pos 0) (le-leb 1 (suc n) (omega arith)))
above_is (negsuc n) = refl

pub returns : goal.returns
unfolding shortfall
returns c =
    let none = pos (100 * c.args.margin) in
    let short = to_z-of_z w128 c.missing.result (record { sfits = c.missing.type_inv }) ∙ c.missing.ensures ∙ ap (λ (e : ℤ). none -ℤ e) (to_z-of_z w64 c.args.equity c.ranges.equity) in
    let most = to_z-of_z w128 c.max-missing.result (record { sfits = c.max-missing.type_inv }) ∙ c.max-missing.ensures.value ∙ ap (λ (z : ℤ). int_max z (pos 0)) short in
    c.div_ceil.ensures ∙ ceiling_is _ 100 (omega arith) ∙ ap (λ (n : ℕ). ceiling n 100) (ap nat_abs most ∙ above_is (none -ℤ c.args.equity))
