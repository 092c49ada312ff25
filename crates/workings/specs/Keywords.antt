-- Values that words name.
use Rattle.std.specs.Prelude.{◌≡◌, ℕ, List, Some, Option}
use Rattle.std.specs.List.{find}
use Rattle.std.specs.Str.{bytes_eq}

-- of some values, each with its word, the one that a text names
abbrev pub named_in : {K : Type 0} → (K → List ℕ) → List K → List ℕ → Option K
named_in word all w = find (λ k. bytes_eq w (word k)) all

-- each is named by its own word
abbrev pub TellsApart : {K : Type 0} → (K → List ℕ) → List K → Type 0
TellsApart {K} word all = (k : K) → named_in word all (word k) ≡ Some k
