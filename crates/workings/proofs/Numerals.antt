-- Texts of digits, and what `parse` says of them.
use Rattle.std.proofs.Common.{◌≡◌, ℕ, ◌^◌, ◌<◌, true, cond, ◌&&◌, List, [], ◌∷◌, length, Ok, Err, Result, refl, ap, ⊎_elim, arith, ltb-true}
use borrow.Author.Tests.{lt-leb}
use Rattle.std.specs.Prelude.{nat_le}
use Rattle.std.specs.Char.{is_ascii_digit}
use Rattle.std.specs.List.{list_all}
use Rattle.std.specs.Result.{OkIff}
use Rattle.std.specs.Str.Parse.{ParsesUnsigned}
use Rattle.std.specs.Str.{all_ascii_digits}
use Rattle.std.proofs.lemmas.Str.Parse.{IsNumeralModel, FoldsDigits, numerals_by_fold, tells_all_ascii_digits, parse_digits}
use Rattle.std.proofs.lemmas.Bool.{and_parts, cases_lt}
use Rattle.workings.specs.declared.number.NumberFault.{NumberFault}
use Rattle.workings.specs.declared.number.NumberFault.TheVariants.{TooLarge}
use Rattle.workings.specs.Numbers.{numeral, written_after, written, number_read}

pub all_digits : (bs : List ℕ) → list_all is_ascii_digit bs ≡ all_ascii_digits bs
all_digits [] = refl
all_digits (b ∷ bs) = ap (λ d. is_ascii_digit b && d) (all_digits bs)

folds : FoldsDigits written_after
unfolding written_after
folds = record { empty = λ n. refl; more = λ n c cs h. refl }

own : IsNumeralModel (λ ds. all_ascii_digits ds ≡ true) written
own = numerals_by_fold _ tells_all_ascii_digits written_after folds

-- `parse` gives the number that is written, unless that passes 64 bits
pub parsed : {E : Type 0} (text : List ℕ) (r : Result ℕ E) → ParsesUnsigned 64 10 text r → numeral text ≡ true → OkIff r ((0 < length text) × (written text < 2 ^ 64)) (written text)
parsed text r h digits = parse_digits own 64 text r h (and_parts _ _ digits).1

some_digit : (text : List ℕ) → numeral text ≡ true → 0 < length text
some_digit text digits = ltb-true 0 (length text) (and_parts _ _ digits).0

pub number_above : (most : ℕ) (text : List ℕ) → numeral text ≡ true → most < written text → Err TooLarge ≡ number_read most text
number_above most text digits h = rw (digits, lt-leb (written text) most h)

-- `parse` refuses digits only where what they write does not fit
pub past_the_end : (most : ℕ) (text : List ℕ) → numeral text ≡ true → most < 2 ^ 64 → ((0 < length text) × (written text < 2 ^ 64) → ⊥) → most < written text
past_the_end most text digits fits refused =
    ⊎_elim (λ h. absurd (refused (some_digit text digits, h))) (λ h. omega arith) (cases_lt (written text) (2 ^ 64))

-- what was parsed, if it is at most most
abbrev pub capped : {E : Type 0} → ℕ → Result ℕ E → Result ℕ NumberFault
capped most (Ok n) = cond (nat_le n most) (Ok n) (Err TooLarge)
capped most (Err e) = Err TooLarge

pub capped_number : {E : Type 0} (most : ℕ) (text : List ℕ) (r : Result ℕ E) → ParsesUnsigned 64 10 text r → numeral text ≡ true → most < 2 ^ 64 → capped most r ≡ number_read most text
capped_number {E} most text (Ok n) h digits fits = rw ((parsed {E = E} text (Ok n) h digits).1, digits)
capped_number {E} most text (Err e) h digits fits =
    number_above most text digits (past_the_end most text digits fits (parsed {E = E} text (Err e) h digits))
