-- What holds of each element of an array that calls of one closure gave, where a call leaves the closure as it was.
use Rattle.std.proofs.Common.{◌≡◌, ℕ, zero, suc, ◌+◌, ◌<◌, ◌≤◌, List, get_or, sym, subst, ⊎_elim, arith}
use Rattle.std.proofs.lemmas.Bool.{cases_eq}
use Rattle.std.specs.Array.{IsFromFnResultFrom, IsFromFnResult}
use denote.Param.Members.{Mut, Called}

module _ {F B : Type 0} (g : Mut F (ℕ × Unit {0}) B) (f : F) (P : ℕ → B → Type 0) (one : (i : ℕ) (y : B) (q : F) → Called g f (i, tt) y q → P i y × (q ≡ f)) where
  from : (ys : List B) (i n : ℕ) → IsFromFnResultFrom g f ys i n → (k : ℕ) (d : B) → i ≤ k → k < i + n → P k (get_or ys k d)
  from ys i zero r k d a b = absurd (omega (arith, a, b))
  from ys i (suc n) r k d a b =
      let now = one i r.1 r.0 r.3 in
      ⊎_elim
      (λ (s : i ≡ k). subst (λ (j : ℕ). P j (get_or ys j d)) s (subst (P i) (sym (r.2.1 d)) now.0))
      (λ (p : i ≡ k → ⊥). from ys (i + 1) n (subst (λ (q : F). IsFromFnResultFrom g q ys (i + 1) n) now.1 r.4) k d (omega (arith, a, p)) (omega (arith, b)))
      (cases_eq i k)

  pub made : (ys : List B) (n : ℕ) → IsFromFnResult g f ys n → (k : ℕ) (d : B) → k < n → P k (get_or ys k d)
  made ys n r k d h = from ys 0 n r.each k d (omega arith) (omega (arith, h))
