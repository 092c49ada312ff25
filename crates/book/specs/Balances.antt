-- A list of balances, one for each account.
use Rattle.std.specs.Prelude.{ℕ, List, ℤ, pos, ◌+ℤ◌, slice_index_or, slice_set}
use Rattle.book.specs.Meaning.{Meaning}

abbrev pub added : List ℤ → ℕ → ℤ → List ℤ
added bs a z = slice_set bs a (slice_index_or bs a (pos 0) +ℤ z)

-- what balances and counts that are kept mean
abbrev pub kept : List ℤ → ℕ → ℕ → Meaning
kept bs made left = record { balance = λ k. slice_index_or bs k (pos 0); made = made; left = left }
