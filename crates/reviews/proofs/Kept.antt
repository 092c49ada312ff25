-- Tests that keep the same records of a list, and the accounts of lawful orders.
use Rattle.std.proofs.Common.{◌≡◌, ◌<◌, Bool, true, List, [], ◌∷◌, filter, refl, arith}
use Rattle.std.proofs.lemmas.Grind.{common_steps}
use Rattle.slots.specs.Every.{every}
use Rattle.orders.specs.declared.order.Order.{Order}
use Rattle.orders.specs.Orders.{lawful_order}
use Rattle.orders.proofs.Lawful.{lawful}

pub kept_alike : {T : Type 0} (test p q : T → Bool) → ((x : T) → test x ≡ true → p x ≡ q x) → (xs : List T) → every test xs ≡ true → filter p xs ≡ filter q xs
unfolding every
kept_alike test p q same [] h = refl
kept_alike test p q same (x ∷ xs) h = grind (arith, common_steps, same x, kept_alike test p q same xs)

-- a second test that passes what the first kept keeps it all
pub kept_again : {T : Type 0} (test p q : T → Bool) → ((x : T) → test x ≡ true → p x ≡ true → q x ≡ true) → (xs : List T) → every test xs ≡ true → filter q (filter p xs) ≡ filter p xs
unfolding every
kept_again test p q passes [] h = refl
kept_again test p q passes (x ∷ xs) h = grind (arith, common_steps, passes x, kept_again test p q passes xs)

-- of any records
pub kept_still : {T : Type 0} (p q : T → Bool) → ((x : T) → p x ≡ true → q x ≡ true) → (xs : List T) → filter q (filter p xs) ≡ filter p xs
kept_still p q passes [] = refl
kept_still p q passes (x ∷ xs) = grind (arith, common_steps, passes x, kept_still p q passes xs)

pub owned : (o : Order) → lawful_order o ≡ true → o.account < 256
owned o s = omega (arith, (lawful o s).owner.1)
