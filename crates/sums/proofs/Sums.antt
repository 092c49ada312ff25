-- Sums over records, one record more at a time.
use Rattle.std.proofs.Common.{◌≡◌, ℕ, zero, suc, ◌+◌, ◌*◌, ◌<◌, ◌≤◌, Bool, true, false, cond, eqb, nat_le, List, [], ◌∷◌, ◌++◌, length, get_or, take, set, map, filter, sum, sym, refl, ◌∙◌, ⊎_elim, append-nil, arith}
use Rattle.std.specs.List.{FoldsTo}
use Rattle.std.proofs.lemmas.List.{get_or-set_same, get_or-set_other}
use Rattle.std.proofs.lemmas.List.Elements.{filter_more}
use Rattle.std.proofs.lemmas.List.Sums.{sum_by-cons}
use Rattle.std.proofs.lemmas.Bool.Decides.{nat_tests}
use Rattle.std.proofs.lemmas.Bool.{cases_eq, eq-eqb, ne_eqb, and_parts, and_from}
use Rattle.std.proofs.lemmas.Fn.{FoldsTo-push}
use Rattle.slots.specs.Every.{every}
use Rattle.terms.specs.declared.side.Side.{Side}
use Rattle.sums.specs.Sums.{of, is_on, units, AtMost}

-- what every account's records come to, with the record x more
module _ {T V : Type 0} (account : T → ℕ) (R : V → T → V → Type 0) (n : V) (xs : List T) (i : ℕ) (x : T) (sums : List V) (v w : V) where
  pub folded_more : i < length xs → x ≡ get_or xs i x → account x < length sums → ((a : ℕ) (d : V) → a < 256 → FoldsTo R n (of account a (take i xs)) (get_or sums a d)) → R (get_or sums (account x) v) x w
      → (a : ℕ) (d : V) → a < 256 → FoldsTo R n (of account a (take (i + 1) xs)) (get_or (set sums (account x) w) a d)
  folded_more h e k so step a d j =
      let front : of account a (take (i + 1) xs) ≡ of account a (take i xs) ++ cond (eqb (account x) a) (x ∷ []) [] = rw e (filter_more (λ r. eqb (account r) a) xs i x h) in
      ⊎_elim
      (λ (s : account x ≡ a).
      let last : R (get_or sums a v) x w = rw (sym s) step in
      let put : get_or (set sums (account x) w) a d ≡ w = rw (sym s) (get_or-set_same sums (account x) w d k) in
      rw (front, eq-eqb (account x) a s, put) (FoldsTo-push R n (of account a (take i xs)) (get_or sums a v) x w (so a v j) last))
      (λ (o : account x ≡ a → ⊥). rw (front, ne_eqb (account x) a o, append-nil (of account a (take i xs)), get_or-set_other sums (account x) a w d (λ p. o (sym p))) (so a d j))
      (cases_eq (account x) a)

-- what each step says, said of another relation
pub folds_as : {P A : Type 0} (R S : P → A → P → Type 0) → ((p : P) (x : A) (q : P) → R p x q → S p x q) → (p : P) (xs : List A) (q : P) → FoldsTo R p xs q → FoldsTo S p xs q
folds_as R S f p [] q e = e
folds_as R S f p (x ∷ xs) q e = (e.0, f p x e.0 e.1, folds_as R S f e.0 xs q e.2)

pub every_taken : {T : Type 0} (test : T → Bool) (i : ℕ) (xs : List T) → every test xs ≡ true → every test (take i xs) ≡ true
unfolding every
every_taken test zero xs s = refl
every_taken test (suc i) [] s = refl
every_taken test (suc i) (x ∷ xs) s =
    let parts = and_parts (test x) (every test xs) s in
    and_from (test x) (every test (take i xs)) parts.0 (every_taken test i xs parts.1)

pub every_if : {T : Type 0} (p q : T → Bool) → ((x : T) → p x ≡ true → q x ≡ true) → (xs : List T) → every p xs ≡ true → every q xs ≡ true
unfolding every
every_if p q h [] s = refl
every_if p q h (x ∷ xs) s =
    let parts = and_parts (p x) (every p xs) s in
    and_from (q x) (every q xs) (h x parts.0) (every_if p q h xs parts.1)

pub cond_small : (b : Bool) (w n : ℕ) → w ≤ n → cond b w 0 ≤ n
cond_small true w n h = h
cond_small false w n h = omega arith

-- F adds up the terms f of the records that count
pub record AddsUp {T : Type 0} (F : List T → ℕ) (counts : T → Bool) (f : T → ℕ) : Type 0 where
  pub none : F [] ≡ 0
  pub more : (x : T) (xs : List T) → F (x ∷ xs) ≡ cond (counts x) (f x) 0 + F xs

module _ {T : Type 0} (counts : T → Bool) (f : T → ℕ) where
  pub sum_adds : AddsUp (λ xs. sum (map f (filter counts xs))) counts f
  sum_adds = record { none = refl; more = λ x xs. one x xs (counts x) }
    where
      one : (x : T) (xs : List T) (b : Bool) → sum (map f (cond b (x ∷ filter counts xs) (filter counts xs))) ≡ cond b (f x) 0 + sum (map f (filter counts xs))
      one x xs true = sum_by-cons (λ n. n) (f x) (map f (filter counts xs))
      one x xs false = omega arith

module _ {T : Type 0} {F : List T → ℕ} {counts : T → Bool} {f : T → ℕ} (adds : AddsUp F counts f) where
  pub sum_is : (xs : List T) → sum (map f (filter counts xs)) ≡ F xs
  sum_is [] = sym adds.none
  sum_is (x ∷ xs) = omega (arith, (sum_adds counts f).more x xs, sum_is xs, adds.more x xs)

  pub sum_push : (xs : List T) (x : T) → F (xs ++ x ∷ []) ≡ F xs + cond (counts x) (f x) 0
  sum_push [] x = omega (arith, adds.more x [], adds.none)
  sum_push (y ∷ xs) x = omega (arith, adds.more y (xs ++ x ∷ []), adds.more y xs, sum_push xs x)

  -- where the terms of records that pass are small
  pub sum_small : (test : T → Bool) (m : ℕ) → ((x : T) → test x ≡ true → f x ≤ m) → (xs : List T) → every test xs ≡ true → F xs ≤ m * length xs
  unfolding every
  sum_small test m h [] s = omega (arith, adds.none)
  sum_small test m h (x ∷ xs) s =
      let parts = and_parts (test x) (every test xs) s in
      omega (arith, adds.more x xs, sum_small test m h xs parts.1, cond_small (counts x) (f x) m (h x parts.0))

  pub folds_is : (xs : List T) (n k : ℕ) → FoldsTo (λ (p : ℕ) (x : T) (q : ℕ). q ≡ p + f x) n (filter counts xs) k → k ≡ n + F xs
  folds_is [] n k e = omega (arith, e, adds.none)
  folds_is (x ∷ xs) n k e = one (counts x) e (λ p r. folds_is xs p k r) ∙ omega (arith, adds.more x xs)
    where
      Adds : ℕ → T → ℕ → Type 0
      Adds p y q = q ≡ p + f y

      one : (b : Bool) → FoldsTo Adds n (cond b (x ∷ filter counts xs) (filter counts xs)) k → ((p : ℕ) → FoldsTo Adds p (filter counts xs) k → k ≡ p + F xs) → k ≡ n + (cond b (f x) 0 + F xs)
      one true (q, s, r) rest = omega (arith, rest q r, s)
      one false r rest = omega (arith, rest n r)

-- where no record's quantity is above `most`
pub units_at_most : {T : Type 0} (account : T → ℕ) (side : T → Side) (quantity : T → ℕ) (a : ℕ) (s : Side) (most : ℕ) (xs : List T) → AtMost quantity most xs → units account side quantity a s xs ≤ most * length xs
units_at_most account side quantity a s most = sum_small (sum_adds (is_on account side a s) quantity) (λ x. nat_le (quantity x) most) most (λ x h. grind (arith, nat_tests))
