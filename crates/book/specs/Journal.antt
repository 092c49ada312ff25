-- What a journal book means: its entries, added up.
use Rattle.slots.specs.Items.{items, capacity}
use Rattle.book.specs.declared.journal.JournalBook.{JournalBook}
use Rattle.book.specs.Meaning.{Meaning}
use Rattle.book.specs.Entries.{journaled}

abbrev pub journal_meaning : JournalBook → Meaning
journal_meaning b = journaled (items b.entries) (capacity b.entries)
