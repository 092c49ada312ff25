-- A write at one place of a list, read at any place: the library tells apart the same place and another, and not both in one.
use Rattle.std.proofs.Common.{◌≡◌, ℕ, ◌<◌, cond, eqb, List, length, get_or, set, sym, ap, ◌∙◌, ⊎_elim}
use Rattle.std.proofs.lemmas.List.{get_or-set_same, get_or-set_other}
use Rattle.std.proofs.lemmas.Bool.{cases_eq, eq-eqb, ne_eqb, cond-true, cond-false}

pub set_at : {T : Type 0} (xs : List T) (k a : ℕ) (new d : T) → k < length xs → get_or (set xs k new) a d ≡ cond (eqb k a) new (get_or xs a d)
set_at {T} xs k a new d h =
    ⊎_elim
    (λ (s : k ≡ a).
    ap (λ (n : ℕ). get_or (set xs k new) n d) (sym s) ∙ get_or-set_same xs k new d h ∙ sym (cond-true (eqb k a) new (get_or xs a d) (eq-eqb k a s)))
    (λ (p : k ≡ a → ⊥). get_or-set_other xs k a new d (λ e. p (sym e)) ∙ sym (cond-false (eqb k a) new (get_or xs a d) (ne_eqb k a p)))
    (cases_eq k a)
