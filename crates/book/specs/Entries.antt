-- Entries, and the balances to which they add up.
use Rattle.std.specs.Prelude.{◌≡◌, ℕ, ◌-◌, ◌<◌, ◌≤◌, Bool, not, ◌&&◌, List, [], ◌∷◌, length, ℤ, pos, ◌+ℤ◌, ◌==◌, nat_lt}
use Rattle.slots.specs.Every.{every}
use Rattle.terms.specs.Ranges.{between, accounts, transfer_max}
use Rattle.book.specs.declared.entry.Entry.{Entry}
use Rattle.book.specs.Meaning.{Meaning, shift}

abbrev pub entry : ℕ → ℕ → ℕ → Entry
entry payer payee amount = record { payer = payer; payee = payee; amount = amount }

-- a lawful entry
pub record Proper (e : Entry) : Type 0 where
  pub payer : e.payer < accounts
  pub payee : e.payee < accounts
  pub apart : e.payer ≡ e.payee → ⊥
  pub some : 1 ≤ e.amount
  pub small : e.amount ≤ transfer_max

-- the same as a test, of every entry of a list
abbrev pub proper_entry : Entry → Bool
proper_entry e = (nat_lt e.payer accounts && nat_lt e.payee accounts) && (not (e.payer == e.payee) && between 1 transfer_max e.amount)

abbrev pub proper : List Entry → Bool
proper = every proper_entry

-- what the entries make of the balance of account k
unfoldable pub posted : List Entry → ℕ → ℤ
posted [] k = pos 0
posted (e ∷ es) k = shift e.payer e.payee e.amount k +ℤ posted es k

-- what the entries mean, where there is room for so many
abbrev pub journaled : List Entry → ℕ → Meaning
journaled es room = record { balance = posted es; made = length es; left = room - length es }
