-- Texts that are numbers.
use Rattle.std.specs.Prelude.{ℕ, ◌+◌, ◌-◌, ◌*◌, Bool, cond, ◌&&◌, List, [], ◌∷◌, length, Ok, Err, Result, nat_le, nat_lt}
use Rattle.std.specs.Str.{all_ascii_digits}
use Rattle.workings.specs.declared.number.NumberFault.{NumberFault}
use Rattle.workings.specs.declared.number.NumberFault.TheVariants.{NoNumber, TooLarge}

-- one or more decimal digits
abbrev pub numeral : List ℕ → Bool
numeral text = nat_lt 0 (length text) && all_ascii_digits text

-- the number that digits write after n
unfoldable pub written_after : ℕ → List ℕ → ℕ
written_after n [] = n
written_after n (d ∷ ds) = written_after (n * 10 + (d - 48)) ds

abbrev pub written : List ℕ → ℕ
written = written_after 0

abbrev pub number_read : ℕ → List ℕ → Result ℕ NumberFault
number_read most text = cond (numeral text) (cond (nat_le (written text) most) (Ok (written text)) (Err TooLarge)) (Err NoNumber)
