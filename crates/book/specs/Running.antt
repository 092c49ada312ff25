-- What a running book means: the balances and counts that it keeps.
use Rattle.book.specs.declared.running.RunningBook.{RunningBook}
use Rattle.book.specs.Meaning.{Meaning, Lawful}
use Rattle.book.specs.Balances.{kept}

abbrev pub running_meaning : RunningBook → Meaning
running_meaning b = kept b.balances b.made b.left

pub lawful_running : (b : RunningBook) → Lawful (running_meaning b)
lawful_running b = record { few = b.few; even = b.even; near = b.near }
