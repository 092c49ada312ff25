-- Texts that are numbers of a range.
use Rattle.std.specs.Prelude.{ℕ, cond, List, drop, ℤ, pos, neg_ℤ, Ok, Err, Result, ◌==◌, nat_le, slice_index}
use Rattle.workings.specs.declared.between.RangeFault.{RangeFault}
use Rattle.workings.specs.declared.between.RangeFault.TheVariants as range
use Rattle.workings.specs.declared.number.NumberFault.{NumberFault}
use Rattle.workings.specs.declared.number.NumberFault.TheVariants.{NoNumber, TooLarge}
use Rattle.workings.specs.Numbers.{number_read}

-- what a fault of a number is as one of a range
abbrev pub range_fault : NumberFault → RangeFault
range_fault NoNumber = range.NoNumber
range_fault TooLarge = range.TooLarge

abbrev pub at_least : ℕ → Result ℕ NumberFault → Result ℕ RangeFault
at_least least (Ok n) = cond (nat_le least n) (Ok n) (Err range.TooSmall)
at_least least (Err e) = Err (range_fault e)

-- one or more decimal digits that write a number from least to most
abbrev pub between_read : (least most : ℕ) → List ℕ → Result ℕ RangeFault
between_read least most text = at_least least (number_read most text)

-- a number below nought, of which digits gave the size
abbrev pub turned : Result ℕ NumberFault → Result ℤ RangeFault
turned (Ok n) = Ok (neg_ℤ (pos n))
turned (Err NoNumber) = Err range.NoNumber
turned (Err TooLarge) = Err range.TooSmall

abbrev pub kept : Result ℕ NumberFault → Result ℤ RangeFault
kept (Ok n) = Ok (pos n)
kept (Err e) = Err (range_fault e)

-- digits, or `-` and digits, up to most on either side of nought
abbrev pub signed_read : (most : ℕ) → List ℕ → Result ℤ RangeFault
signed_read most text = cond (slice_index text 0 == 45) (turned (number_read most (drop 1 text))) (kept (number_read most text))
