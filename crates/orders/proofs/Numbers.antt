-- Orders whose numbers rise: what keeps them rising, and what the numbers then tell.
use Rattle.std.proofs.Common.{◌≡◌, ℕ, zero, suc, ◌+◌, ◌-◌, ◌<◌, ◌≤◌, Bool, true, List, [], ◌∷◌, ◌++◌, length, get_or, Some, None, filter, refl, subst, ⊎_elim, arith}
use Rattle.std.specs.List.{remove}
use Rattle.std.proofs.lemmas.Bool.{cases_eq}
use Rattle.std.proofs.lemmas.Bool.Decides.{nat_tests}
use Rattle.orders.specs.declared.order.Order.{Order}
use Rattle.orders.specs.Orders.{place_from, place_of}
use Rattle.orders.specs.Numbers.{held, without, rising}

-- of the first order and the others
pub record Rises (low high : ℕ) (o : Order) (os : List Order) : Type 0 where
  pub above : low < o.number
  pub within : o.number ≤ high
  pub rest : rising o.number high os ≡ true

pub rises : (low high : ℕ) (o : Order) (os : List Order) → rising low high (o ∷ os) ≡ true → Rises low high o os
unfolding rising
rises low high o os h = record { above = grind (arith, nat_tests); within = grind (arith, nat_tests); rest = grind (arith, nat_tests) }

-- a lower start and a higher end
pub rising_wider : (low low' high high' : ℕ) (os : List Order) → low' ≤ low → high ≤ high' → rising low high os ≡ true → rising low' high' os ≡ true
unfolding rising
rising_wider low low' high high' [] l h s = refl
rising_wider low low' high high' (o ∷ os) l h s = let rest = rising_wider o.number o.number high high' os in grind (arith, nat_tests, rest)

pub rising_kept : (keeps : Order → Bool) (low high : ℕ) (os : List Order) → rising low high os ≡ true → rising low high (filter keeps os) ≡ true
unfolding rising
rising_kept keeps low high [] s = refl
rising_kept keeps low high (o ∷ os) s =
    let r = rises low high o os s in
    let rest = rising_kept keeps o.number high os r.rest in
    let wider = rising_wider o.number low high high (filter keeps os) (omega (arith, r.above)) (omega arith) rest in
    grind (arith, nat_tests, rest, wider)

pub rising_push : (low high : ℕ) (os : List Order) (o : Order) → low ≤ high → high < o.number → rising low high os ≡ true → rising low o.number (os ++ o ∷ []) ≡ true
unfolding rising
rising_push low high [] o l h s = grind (arith, nat_tests)
rising_push low high (x ∷ os) o l h s =
    let r = rises low high x os s in
    let rest = rising_push x.number high os o r.within h r.rest in
    grind (arith, nat_tests, r.above, r.within, rest)

-- above the number n there is no order with it
above_keeps : (n low high : ℕ) (os : List Order) → n ≤ low → rising low high os ≡ true → without n os ≡ os
above_keeps n low high [] l s = refl
above_keeps n low high (o ∷ os) l s = let r = rises low high o os s in grind (arith, nat_tests, r.above, above_keeps n o.number high os (omega (arith, r.above)) r.rest)

-- the order at the place i that was found
pub record Found (n i : ℕ) (os : List Order) : Type 0 where
  pub inside : i < length os
  pub holds : (o : Order) → o ≡ get_or os i o → held n os ≡ Some o
  pub left : remove os i ≡ without n os

-- counted from k
pub found_from : (n k i low high : ℕ) (os : List Order) → place_from k n os ≡ Some i → rising low high os ≡ true → (k ≤ i) × Found n (i - k) os
unfolding place_from held
found_from n k i low high [] e s = absurd cc
found_from n k i low high (o ∷ os) e s =
    let r = rises low high o os s in
    let at : ℕ → Type 0 = λ (j : ℕ). Found n j (o ∷ os) in
    ⊎_elim
    (λ (same : o.number ≡ n).
    let here : k ≡ i = grind (arith, nat_tests) in
    let kept = above_keeps n o.number high os (omega (arith, same)) r.rest in
    let z : 0 ≡ i - k = omega arith in
    (omega arith, subst at z (record { inside = omega arith; holds = λ x is. grind (arith, nat_tests); left = grind (arith, nat_tests, kept) })))
    (λ (other : o.number ≡ n → ⊥).
    let later = found_from n (k + 1) i o.number high os (grind (arith, nat_tests)) r.rest in
    let left = later.1.left in
    let z : suc (i - (k + 1)) ≡ i - k = omega (arith, later.0) in
    (omega (arith, later.0), subst at z (record { inside = omega (arith, later.1.inside); holds = λ x is. let held = later.1.holds x is in grind (arith, nat_tests, held); left = grind (arith, nat_tests, left) })))
    (cases_eq o.number n)

pub found_at : (n i low high : ℕ) (os : List Order) → place_of n os ≡ Some i → rising low high os ≡ true → Found n i os
found_at n i low high os e s = let z : i - 0 ≡ i = omega arith in subst (λ (j : ℕ). Found n j os) z (found_from n 0 i low high os e s).1

-- found nowhere, whether or not the numbers rise
pub not_found : (n k : ℕ) (os : List Order) → place_from k n os ≡ None → held n os ≡ None
unfolding place_from held
not_found n k [] e = refl
not_found n k (o ∷ os) e = let rest = not_found n (k + 1) os in grind (arith, nat_tests, rest)

-- a taken-out order is gone, and no other
pub without_held : (n : ℕ) (os : List Order) → held n (without n os) ≡ None
unfolding held
without_held n [] = refl
without_held n (o ∷ os) = let rest = without_held n os in grind (arith, nat_tests, rest)

pub without_others : (n k : ℕ) (os : List Order) → (k ≡ n → ⊥) → held k (without n os) ≡ held k os
unfolding held
without_others n k [] d = refl
without_others n k (o ∷ os) d = let rest = without_others n k os d in grind (arith, nat_tests, rest, d)

-- of two places the later one has the higher number
pub rising_at : (low high : ℕ) (os : List Order) (i : ℕ) (d : Order) → rising low high os ≡ true → i < length os → (low < (get_or os i d).number) × ((get_or os i d).number ≤ high)
rising_at low high [] i d s h = absurd (omega arith)
rising_at low high (o ∷ os) zero d s h = let r = rises low high o os s in (r.above, r.within)
rising_at low high (o ∷ os) (suc i) d s h =
    let r = rises low high o os s in
    let later = rising_at o.number high os i d r.rest (omega arith) in
    (omega (arith, r.above, later.0), later.1)

pub rising_apart : (low high : ℕ) (os : List Order) (i j : ℕ) (d : Order) → rising low high os ≡ true → i < j → j < length os → (get_or os i d).number < (get_or os j d).number
rising_apart low high [] i j d s l h = absurd (omega arith)
rising_apart low high (o ∷ os) zero zero d s l h = absurd (omega arith)
rising_apart low high (o ∷ os) zero (suc j) d s l h = (rising_at o.number high os j d (rises low high o os s).rest (omega arith)).0
rising_apart low high (o ∷ os) (suc i) zero d s l h = absurd (omega arith)
rising_apart low high (o ∷ os) (suc i) (suc j) d s l h = rising_apart o.number high os i j d (rises low high o os s).rest (omega arith) (omega arith)
