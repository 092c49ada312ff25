-- Sums over accounts.
use Rattle.std.proofs.Common.{◌≡◌, ℕ, zero, suc, ◌+◌, ◌<◌, ◌≤◌, cond, ltb, ℤ, pos, ◌+ℤ◌, ◌-ℤ◌, nat_abs, refl, add-one, arith}
use Rattle.std.proofs.lemmas.Int.{ints}
use Rattle.std.proofs.lemmas.Bool.Decides.{nat_tests}
use Rattle.book.specs.Meaning.{together, only, shift}

-- a transfer adds its amount at most
pub shift_small : (p q n k : ℕ) → (p ≡ q → ⊥) → nat_abs (shift p q n k) ≤ n
unfolding shift only
shift_small p q n k d = grind (arith, nat_tests, ints)

pub together_nil : (n : ℕ) → together n (λ k. pos 0) ≡ pos 0
unfolding together
together_nil zero = refl
together_nil (suc n) = let e = together_nil n in omega (arith, ints)

pub together_add : (n : ℕ) (f g : ℕ → ℤ) → together n (λ k. f k +ℤ g k) ≡ together n f +ℤ together n g
unfolding together
together_add zero f g = refl
together_add (suc n) f g = let e = together_add n f g in omega (arith, ints)

pub together_sub : (n : ℕ) (f g : ℕ → ℤ) → together n (λ k. f k -ℤ g k) ≡ together n f -ℤ together n g
unfolding together
together_sub zero f g = refl
together_sub (suc n) f g = let e = together_sub n f g in omega (arith, ints)

-- what is added to one account is added to the sum, where it is among the accounts
together_one : (n a : ℕ) (z : ℤ) → together n (only a z) ≡ cond (ltb a n) z (pos 0)
unfolding together only
together_one zero a z = grind (arith, nat_tests, ints)
together_one (suc n) a z = let e = together_one n a z in grind (arith, nat_tests, ints)

pub together_only : (n a : ℕ) (z : ℤ) → a < n → together n (only a z) ≡ z
together_only n a z h = let e = together_one n a z in grind (arith, nat_tests, ints)

-- a transfer raises and lowers the sum where payee and payer are among the accounts
together_parts : (n p q x : ℕ) → together n (shift p q x) ≡ cond (ltb q n) (pos x) (pos 0) -ℤ cond (ltb p n) (pos x) (pos 0)
unfolding together shift only
together_parts zero p q x = grind (arith, nat_tests, ints)
together_parts (suc n) p q x = let e = together_parts n p q x in grind (arith, nat_tests, ints)

-- and leaves it where both are
pub together_shift : (n p q x : ℕ) → p < n → q < n → together n (shift p q x) ≡ pos 0
together_shift n p q x hp hq = let e = together_parts n p q x in grind (arith, nat_tests, ints)

-- one more
pub together_more : (n : ℕ) (f : ℕ → ℤ) → together (n + 1) f ≡ together n f +ℤ f n
unfolding together
together_more n f = rw add-one refl

-- the first apart from the others
pub together_first : (n : ℕ) (f : ℕ → ℤ) → together (suc n) f ≡ f 0 +ℤ together n (λ k. f (suc k))
unfolding together
together_first zero f = omega (arith, ints)
together_first (suc n) f = let e = together_first n f in omega (arith, ints)
