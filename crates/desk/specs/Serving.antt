-- What a command does to the book that is served, to the counts, and to which opening it leads.
use Rattle.std.specs.Prelude.{◌≡◌, false, None, Option, MatchOption}
use Rattle.book.specs.Meaning.{Meaning}
use Rattle.book.specs.Deposits.{deposit_refusal, deposited}
use Rattle.commands.specs.declared.command.Command.{Command}
use Rattle.commands.specs.declared.command.Command.TheVariants.{Open, Deposit, State, Statement, Work}
use Rattle.desk.specs.declared.counts.Counts.{Counts}
use Rattle.commands.specs.declared.opening.Opening.{Opening}
use Rattle.desk.specs.Answers.{counted, open_counted}
use Rattle.desk.specs.Counting.{one_early}
use Rattle.commands.specs.Openings.{request_lawful, Admitted}

-- only a deposit changes the book
abbrev pub commanded : Meaning → Command → Meaning
commanded m (Open q) = m
commanded m (Deposit a y) = deposited m a y
commanded m State = m
commanded m Statement = m
commanded m (Work w) = m

abbrev pub command_counted : Meaning → Command → Counts → Counts
command_counted m (Open q) c = open_counted q c
command_counted m (Deposit a y) c = counted (deposit_refusal m a y) c
command_counted m State c = c
command_counted m Statement c = c
command_counted m (Work w) c = c

-- before any ledger
abbrev pub early_counted : Command → Counts → Counts
early_counted (Open q) c = open_counted q c
early_counted (Deposit a y) c = one_early c
early_counted State c = one_early c
early_counted Statement c = one_early c
early_counted (Work w) c = c

-- only a lawful `open` leads to an opening
abbrev pub Opens : Command → Option Opening → Type 0
Opens (Open q) o = MatchOption o (request_lawful q ≡ false) (Admitted q)
Opens (Deposit a y) o = o ≡ None
Opens State o = o ≡ None
Opens Statement o = o ≡ None
Opens (Work w) o = o ≡ None
