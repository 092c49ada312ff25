use Rattle.std.proofs.Common.{◌≡◌, ℕ, ◌-◌, ◌≤◌, List, [], ap, ◌∙◌, arith}
use Rattle.slots.specs.Every.{every}
use Rattle.slots.specs.Items.{items, capacity}
use Rattle.slots.proofs.Items.{items_fit}
use Rattle.book.specs.declared.entry.Entry.{Entry}
use Rattle.book.specs.Meaning.{fresh}
use Rattle.book.specs.Entries.{proper, posted, journaled}
use Rattle.book.proofs.Posting.{lawful_journaled}
use Rattle.book.proofs.journal.JournalBook.new.Goals as goal

-- no entries
blank : (es : List Entry) (room n : ℕ) → es ≡ [] → room ≡ n → journaled es room ≡ fresh n
unfolding posted
blank es room n h k = let left : room - 0 ≡ n = omega (arith, k) in ap (λ (xs : List Entry). journaled xs room) h ∙ ap fresh left

pub invariant_of-result : goal.invariant_of-result
unfolding every
invariant_of-result c =
    let l = c.new-entries.result in
    let few : capacity l ≤ 65536 = omega (arith, c.new-entries.ensures.capacity) in
    let fine = ap proper c.new-entries.ensures.items in
    record { few = few; lawful = fine; adds_up = lawful_journaled (items l) (capacity l) fine (items_fit l) few }

pub returns-clause-meaning : goal.returns-clause-meaning
returns-clause-meaning c = blank _ _ _ c.new-entries.ensures.items (omega (arith, c.new-entries.ensures.capacity))
