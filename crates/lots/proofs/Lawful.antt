-- What the test of a lawful lot says. Orders have their own: the tests differ, and a part in common would be cited beside the rest of each.
use Rattle.std.proofs.Common.{◌≡◌, ℕ, ◌*◌, ◌≤◌, true, nat_abs, arith}
use Rattle.std.proofs.lemmas.Nat.{mul-le}
use Rattle.std.proofs.lemmas.Bool.Decides.{nat_tests}
use Rattle.terms.specs.declared.lot.Lot.{Lot}
use Rattle.terms.specs.Bounds.{charge_limit}
use Rattle.terms.proofs.Limits.{limit_max}
use Rattle.lots.specs.Lots.{lawful_lot}

pub record Lawful (time : ℕ) (l : Lot) : Type 0 where
  pub owner : (2 ≤ l.account) × (l.account ≤ 255)
  pub some : 1 ≤ l.quantity
  pub few : l.quantity ≤ 50000
  pub priced : (1 ≤ l.price) × (l.price ≤ 100000000)
  pub charged : nat_abs l.charge ≤ charge_limit time * l.quantity

pub lawful : (time : ℕ) (l : Lot) → lawful_lot time l ≡ true → Lawful time l
lawful time l h = record { owner = (grind (arith, nat_tests), grind (arith, nat_tests)); some = grind (arith, nat_tests); few = grind (arith, nat_tests); priced = (grind (arith, nat_tests), grind (arith, nat_tests)); charged = grind (arith, nat_tests) }

-- at any time of a ledger
pub charge_small : (time : ℕ) (l : Lot) → time ≤ 94694399 → Lawful time l → nat_abs l.charge ≤ 712400000000
charge_small time l h b = omega (arith, b.charged, mul-le (charge_limit time) l.quantity 14248000 50000 (limit_max time h) b.few)
