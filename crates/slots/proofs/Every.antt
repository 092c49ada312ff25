-- What a test of every record says of one, and what it takes to add one.
use Rattle.std.proofs.Common.{◌≡◌, ℕ, zero, suc, ◌<◌, Bool, true, List, [], ◌∷◌, ◌++◌, length, get_or, filter, refl, arith}
use Rattle.std.proofs.lemmas.Bool.{and_parts, and_from, cond_both}
use Rattle.slots.specs.Every.{every}

module _ {T : Type 0} (test : T → Bool) where
  pub every_at : (xs : List T) (i : ℕ) (d : T) → i < length xs → every test xs ≡ true → test (get_or xs i d) ≡ true
  unfolding every
  every_at [] i d h s = absurd (omega arith)
  every_at (x ∷ xs) zero d h s = (and_parts (test x) (every test xs) s).0
  every_at (x ∷ xs) (suc i) d h s = every_at xs i d (omega arith) (and_parts (test x) (every test xs) s).1

  -- of the record that was read at place i
  pub every_read : (xs : List T) (i : ℕ) (x : T) → every test xs ≡ true → i < length xs → x ≡ get_or xs i x → test x ≡ true
  every_read xs i x s h e = rw e (every_at xs i x h s)

  pub every_push : (xs : List T) (x : T) → every test xs ≡ true → test x ≡ true → every test (xs ++ x ∷ []) ≡ true
  unfolding every
  every_push [] x s h = and_from (test x) true h refl
  every_push (y ∷ xs) x s h =
      let parts = and_parts (test y) (every test xs) s in
      and_from (test y) (every test (xs ++ x ∷ [])) parts.0 (every_push xs x parts.1 h)

  -- what is kept of a list passes too
  pub every_kept : (keeps : T → Bool) (xs : List T) → every test xs ≡ true → every test (filter keeps xs) ≡ true
  unfolding every
  every_kept keeps [] s = refl
  every_kept keeps (x ∷ xs) s =
      let parts = and_parts (test x) (every test xs) s in
      let rest = every_kept keeps xs parts.1 in
      cond_both (keeps x) (x ∷ filter keeps xs) (filter keeps xs) (λ (l : List T). every test l ≡ true) (λ e. and_from (test x) (every test (filter keeps xs)) parts.0 rest) (λ e. rest)
