use Rattle.std.proofs.Common.{◌≡◌, ◌≤◌, ◌-◌, ◌<◌, [], ◌∷◌, ◌++◌, length, ltb, Ok, Err, sym, ap, ◌∙◌, arith}
use Rattle.std.proofs.lemmas.Bool.{cond-true, lt-ltb}
use Rattle.slots.specs.Items.{items, capacity}
use Rattle.slots.proofs.Every.{every_push}
use Rattle.slots.proofs.Items.{items_fit}
use Rattle.terms.specs.Refusals.{answer}
use Rattle.book.specs.Meaning.{transfer_refusal}
use Rattle.book.specs.Entries.{entry, proper_entry, proper}
use Rattle.book.specs.Journal.{journal_meaning}
use Rattle.book.proofs.Posting.{admitted, transferred_taken, proper_test, journaled_push, lawful_journaled}
use Rattle.book.proofs.journal.methods.JournalBookBook.transfer.Goals as goal
use Rattle.book.proofs.journal.methods.JournalBookBook.transfer.Goals.{After-append}

taken : (c : After-append) → answer (transfer_refusal (journal_meaning c.args.self.now).left c.args.payer c.args.payee c.args.amount) ≡ Ok tt
taken c = rw (sym c.left.ensures, sym c.admit.ensures) c.in_ok-admit.was

-- where the transfer was admitted there is room, so the entry was appended
more : (c : After-append) → items c.append.new.self ≡ items c.args.self.now.entries ++ entry c.args.payer c.args.payee c.args.amount ∷ []
more c =
    let b = c.args.self.now.entries in
    let a = admitted (capacity b - length (items b)) c.args.payer c.args.payee c.args.amount (taken c) in
    let below : length (items b) < capacity b = omega (arith, a.room) in
    let had : c.append.result ≡ Ok tt = c.append.ensures.value ∙ cond-true (ltb (length (items b)) (capacity b)) (Ok tt) (Err _) (lt-ltb (length (items b)) (capacity b) below) in
    rw had at c.append.ensures.items

pub invariant_of-self : goal.invariant_of-self
invariant_of-self c =
    let b = c.args.self.now in
    let e = entry c.args.payer c.args.payee c.args.amount in
    let a = admitted (journal_meaning b).left e.payer e.payee e.amount (taken c) in
    let fine = proper_test e (record { payer = c.ranges.payer.fits; payee = c.ranges.payee.fits; apart = a.apart; some = a.some; small = a.small }) in
    let l = c.append.new.self in
    let few : capacity l ≤ 65536 = omega (arith, c.append.ensures.capacity) in
    let all = ap proper (more c) ∙ every_push proper_entry (items b.entries) e b.lawful fine in
    record { few = few; lawful = all; adds_up = lawful_journaled (items l) (capacity l) all (items_fit l) few }

pub returns-clause-leaves : goal.returns-clause-leaves
returns-clause-leaves c =
    let b = c.args.self.now in
    let at = (goal.at.returns-clause-leaves c).After-append in
    journaled_push (items b.entries) _ _ _ (entry c.args.payer c.args.payee c.args.amount) (more at) c.append.ensures.capacity ∙ sym (transferred_taken (journal_meaning b) c.args.payer c.args.payee c.args.amount (taken at))
