use Rattle.std.proofs.Common.{◌≡◌, ◌*◌, ◌≤◌, take, nat_abs}
use Rattle.book.specs.Entries.{posted}
use Rattle.book.proofs.journal.methods.JournalBookBook.balance.Given as goal

abbrev pub invariant-loop-entry : goal.invariant-loop-entry
invariant-loop-entry l = (l.sum ≡ posted (take l.entry-index l.entry-items) l.account) × (nat_abs l.sum ≤ 80000000000000 * l.entry-index)
