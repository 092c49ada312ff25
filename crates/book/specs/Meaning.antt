-- What a book means.
use Rattle.std.specs.Prelude.{◌≡◌, ℕ, zero, suc, ◌+◌, ◌-◌, ◌*◌, ◌<◌, ◌≤◌, cond, not, ◌||◌, [], ◌∷◌, ℤ, pos, ◌+ℤ◌, ◌-ℤ◌, Option, ◌==◌, nat_eq, unsigned_abs}
use Rattle.terms.specs.declared.refusal.Refusal.{Refusal}
use Rattle.terms.specs.declared.refusal.Refusal.TheVariants.{NoEntryLeft, TransferUnlawful}
use Rattle.terms.specs.Ranges.{between, accounts, transfer_max, entries_max}
use Rattle.terms.specs.Refusals.{◌gives◌, first, unless}

-- a balance in sen for each account 0 to 255, the entries made, and those left
pub record Meaning : Type 0 where
  pub balance : ℕ → ℤ
  pub made : ℕ
  pub left : ℕ

-- a book that has n entries left and has made none
abbrev pub fresh : ℕ → Meaning
fresh n = record { balance = λ k. pos 0; made = 0; left = n }

-- the sum of f over 0 to n − 1
unfoldable pub together : ℕ → (ℕ → ℤ) → ℤ
together zero f = pos 0
together (suc n) f = together n f +ℤ f n

-- what is always true of a book
pub record Lawful (m : Meaning) : Type 0 where
  pub few : m.made + m.left ≤ entries_max
  pub even : together accounts m.balance ≡ pos 0
  pub near : (k : ℕ) → k < accounts → unsigned_abs (m.balance k) ≤ transfer_max * m.made

-- z for account a, nought for every other
unfoldable pub only : ℕ → ℤ → ℕ → ℤ
only a z k = cond (a == k) z (pos 0)

-- what a transfer adds to each balance: it lowers the payer's and raises the payee's
unfoldable pub shift : ℕ → ℕ → ℕ → ℕ → ℤ
shift payer payee amount k = only payee (pos amount) k -ℤ only payer (pos amount) k

abbrev pub entered : Meaning → ℕ → ℕ → ℕ → Meaning
entered m payer payee amount = record { balance = λ k. m.balance k +ℤ shift payer payee amount k; made = m.made + 1; left = m.left - 1 }

-- why a transfer is refused, if it is, where so many entries are left
abbrev pub transfer_refusal : ℕ → ℕ → ℕ → ℕ → Option Refusal
transfer_refusal left payer payee amount = first ((payer == payee || not (between 1 transfer_max amount)) gives TransferUnlawful ∷ nat_eq left 0 gives NoEntryLeft ∷ [])

-- the book after a transfer, taken or refused
abbrev pub transferred : Meaning → ℕ → ℕ → ℕ → Meaning
transferred m payer payee amount = unless (transfer_refusal m.left payer payee amount) m (entered m payer payee amount)

-- what all accounts but the bank hold together
abbrev pub clients : Meaning → ℤ
clients m = together 255 (λ k. m.balance (suc k))
