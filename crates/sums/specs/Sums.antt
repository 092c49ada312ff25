-- Sums over records, of which an account, a side and a quantity are told.
use Rattle.std.specs.Prelude.{◌≡◌, ℕ, ◌<◌, Bool, true, ◌&&◌, List, length, take, slice_index_or, map, sum, filter, nat_le, ◌==◌}
use Rattle.std.specs.List.{FoldsTo}
use Rattle.slots.specs.Every.{every}
use Rattle.terms.specs.declared.side.Side.{Side}
use Rattle.terms.specs.Codes.{same_side}

-- no record's quantity is above `most`
abbrev pub AtMost : {T : Type 0} → (T → ℕ) → ℕ → List T → Type 0
AtMost quantity most records = every (λ r. nat_le (quantity r) most) records ≡ true

module _ {T : Type 0} (account : T → ℕ) where
  -- account a's records
  abbrev pub of : ℕ → List T → List T
  of a = filter (λ r. account r == a)

  -- v is what account a's records come to from `nought` on, where `Adds v r w` says what one record more makes of v
  abbrev pub ComesTo : {V : Type 0} → (V → T → V → Type 0) → V → ℕ → List T → V → Type 0
  ComesTo Adds nought a records v = FoldsTo Adds nought (of a records) v

  -- each record in turn may be added to what those of its account before it came to
  abbrev pub MayAdd : {V : Type 0} → (V → T → Type 0) → (V → T → V → Type 0) → V → List T → Type 0
  MayAdd {V} may Adds nought records = (i : ℕ) (r : T) (v : V) → i < length records → r ≡ slice_index_or records i r → ComesTo Adds nought (account r) (take i records) v → may v r

  module _ (side : T → Side) where
    -- of account a and on side s
    abbrev pub is_on : ℕ → Side → T → Bool
    is_on a s r = account r == a && same_side (side r) s

    -- the units of account a's records on side s
    abbrev pub units : (T → ℕ) → ℕ → Side → List T → ℕ
    units quantity a s records = sum (map quantity (filter (is_on a s) records))
