-- Lines and their words.
use Rattle.std.specs.Prelude.{◌≡◌, ℕ, ◌<◌, Bool, true, cond, List, [], ◌∷◌, ◌++◌, map, length, ◌==◌}
use Rattle.std.specs.Borrow.{Bor}
use Rattle.std.specs.Char.{is_ascii_whitespace, is_whitespace, is_not_whitespace}
use Rattle.std.specs.Str.{NoCharPasses, EmptyOrStartsWithPassing}

-- nothing but white space, or after white space a `#`
unfoldable pub skipped : List ℕ → Bool
skipped [] = true
skipped (b ∷ bs) = cond (is_ascii_whitespace b) (skipped bs) (b == 35)

-- bs is white space, the word w, and rest, which is empty or begins with white space
pub record First (bs w rest : List ℕ) : Type 0 where
  pub gap : List ℕ
  pub cut : bs ≡ gap ++ (w ++ rest)
  pub some : 0 < length w
  pub blank : NoCharPasses is_not_whitespace gap
  pub solid : NoCharPasses is_whitespace w
  pub ends : (more : List ℕ) × EmptyOrStartsWithPassing is_whitespace rest more

-- ws are the words of bs
abbrev pub Words : List ℕ → List (List ℕ) → Type 0
Words bs [] = NoCharPasses is_not_whitespace bs
Words bs (w ∷ ws) = (rest : List ℕ) × First bs w rest × Words rest ws

-- what references to texts point to
abbrev pub texts : List (Bor (List ℕ)) → List (List ℕ)
texts = map (λ t. t.now)
