use Rattle.std.proofs.Common.{◌≡◌, ◌*◌, ◌≤◌, ◌-ℤ◌, nat_abs}
use Rattle.book.specs.Meaning.{together}
use Rattle.book.proofs.clients.client_money.Given as goal

-- the accounts so far, without the bank
abbrev pub invariant-loop-account : goal.invariant-loop-account
invariant-loop-account g l =
    (l.sum ≡ together l.account (g.B.Book.meaning l.book).balance -ℤ (g.B.Book.meaning l.book).balance 0) × (nat_abs l.sum ≤ (80000000000000 * 65536) * l.account)
