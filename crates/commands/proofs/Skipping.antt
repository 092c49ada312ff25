-- Whether a line is skipped, by its first byte that is no white space.
use Rattle.std.proofs.Common.{◌≡◌, ℕ, Bool, true, false, cond, not, eqb, List, [], ◌∷◌, Some, None, Option, refl}
use Rattle.std.specs.Char.{is_ascii_whitespace}
use Rattle.std.specs.List.{find}
use Rattle.workings.specs.Lines.{skipped}

abbrev pub is_dark : ℕ → Bool
is_dark b = not (is_ascii_whitespace b)

abbrev pub skipped_at : Option ℕ → Bool
skipped_at None = true
skipped_at (Some b) = eqb b 35

pub skipped_found : (bs : List ℕ) → skipped_at (find is_dark bs) ≡ skipped bs
unfolding skipped
skipped_found [] = refl
skipped_found (b ∷ bs) = elim (is_ascii_whitespace b) as (λ v. skipped_at (cond (not v) (Some b) (find is_dark bs)) ≡ cond v (skipped bs) (eqb b 35)) [ true ↦ skipped_found bs | false ↦ refl ]
