-- A deposit moves 100 sen a yen from the bank to the account.
use Rattle.std.specs.Prelude.{ℕ, ◌*◌, not, List, [], ◌∷◌, ◌++◌, Option, nat_eq, nat_lt}
use Rattle.terms.specs.declared.refusal.Refusal.{Refusal}
use Rattle.terms.specs.declared.refusal.Refusal.TheVariants.{AccountOutOfRange, PaymentOutOfRange, NoEntryLeft}
use Rattle.terms.specs.Ranges.{between, bank, payment_max}
use Rattle.terms.specs.Refusals.{Sentence, ◌gives◌, first, unless}
use Rattle.book.specs.Meaning.{Meaning, entered}

-- what is asked of every payment
abbrev pub payment_sentences : (account yen : ℕ) → List Sentence
payment_sentences a yen = nat_lt a 2 gives AccountOutOfRange ∷ not (between 1 payment_max yen) gives PaymentOutOfRange ∷ []

abbrev pub deposit_refusal : Meaning → ℕ → ℕ → Option Refusal
deposit_refusal m a yen = first (payment_sentences a yen ++ nat_eq m.left 0 gives NoEntryLeft ∷ [])

abbrev pub deposited : Meaning → ℕ → ℕ → Meaning
deposited m a yen = unless (deposit_refusal m a yen) m (entered m bank a (100 * yen))
