-- A text that does not begin with `-`.
use Rattle.std.proofs.Common.{◌≡◌, ℕ, false, eqb, List, [], ◌∷◌, get_or, refl, ne_eqb}
use Rattle.workings.specs.Between.{kept, signed_read}
use Rattle.workings.specs.Numbers.{number_read}

no_minus : (text : List ℕ) → ((rest : List ℕ) → text ≡ 45 ∷ rest → ⊥) → eqb (get_or text 0 0) 45 ≡ false
no_minus [] h = refl
no_minus (b ∷ bs) h = ne_eqb b 45 (λ e. h bs (rw e))

pub signed_bare : (most : ℕ) (text : List ℕ) → ((rest : List ℕ) → text ≡ 45 ∷ rest → ⊥) → kept (number_read most text) ≡ signed_read most text
signed_bare most text h = rw (no_minus text h)
