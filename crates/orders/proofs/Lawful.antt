-- What the test of a lawful order says, and how large its margin can be. Lots have their own: the tests differ, and a part in common would be cited beside the rest of each.
use Rattle.std.proofs.Common.{◌≡◌, ℕ, ◌*◌, ◌≤◌, Bool, true, false, cond, eqb, arith}
use Rattle.std.proofs.lemmas.Nat.{mul-le}
use Rattle.std.proofs.lemmas.Bool.Decides.{nat_tests}
use Rattle.terms.specs.Margins.{requirement}
use Rattle.terms.proofs.Divisions.{ceiling_at_most}
use Rattle.orders.specs.declared.order.Order.{Order}
use Rattle.orders.specs.Margins.{order_margin}
use Rattle.orders.specs.Orders.{lawful_order}

pub record Lawful (o : Order) : Type 0 where
  pub owner : (2 ≤ o.account) × (o.account ≤ 255)
  pub priced : o.price ≤ 100000000
  pub some : 1 ≤ o.quantity
  pub few : o.quantity ≤ 50000

pub lawful : (o : Order) → lawful_order o ≡ true → Lawful o
lawful o h = record { owner = (grind (arith, nat_tests), grind (arith, nat_tests)); priced = grind (arith, nat_tests); some = grind (arith, nat_tests); few = grind (arith, nat_tests) }

pub requirement_small : (p price q : ℕ) → p ≤ 100 → price ≤ 100000000 → q ≤ 50000 → requirement p price q ≤ 50000000000
unfolding requirement
requirement_small p price q hp hx hq =
    ceiling_at_most (price * q * p) 10000 50000000000 (omega arith) (omega (arith, mul-le (price * q) p 5000000000000 100 (mul-le price q 100000000 50000 hx hq) hp))

pub margin_small : (p k : ℕ) (o : Order) → p ≤ 100 → k ≤ 100000000 → lawful_order o ≡ true → order_margin p k o ≤ 50000000000
unfolding order_margin
margin_small p k o hp hk h = one o.cut (eqb o.price 0) (lawful o h)
  where
    one : (b e : Bool) → Lawful o → cond b 0 (requirement p (cond e k o.price) o.quantity) ≤ 50000000000
    one true e l = omega arith
    one false true l = requirement_small p k o.quantity hp hk l.few
    one false false l = requirement_small p o.price o.quantity hp l.priced l.few
