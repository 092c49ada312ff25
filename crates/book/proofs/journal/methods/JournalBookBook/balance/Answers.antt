use Rattle.std.proofs.Common.{◌<◌, refl, arith}
use Rattle.std.proofs.lemmas.Int.{ints}
use Rattle.std.proofs.lemmas.Grind.{common_steps}
use Rattle.slots.proofs.Every.{every_at}
use Rattle.slots.proofs.Items.{items_fit}
use Rattle.book.specs.Entries.{entry, proper_entry, posted}
use Rattle.book.proofs.Posting.{proper_fact, posted_more}
use Rattle.book.proofs.journal.methods.JournalBookBook.balance.Goals as goal

pub loop-entry-init : goal.loop-entry-init
unfolding posted
loop-entry-init c = (refl, omega arith)

pub effect-sum-requires : goal.effect-sum-requires
effect-sum-requires c = proper_fact _ (every_at proper_entry c.as_slice-entry-items.result.now c.loop-entry.entry-index _ c.loop-entry-test.true (rw c.as_slice-entry-items.ensures c.args.self.now.lawful))

pub loop-entry-preserved : goal.loop-entry-preserved
loop-entry-preserved c =
    let b = c.args.self.now in
    let fit = items_fit b.entries in
    let few = b.few in
    let is = c.as_slice-entry-items.ensures in
    let below : c.loop-entry.entry-index < 65536 = omega (arith, rw is at c.loop-entry-test.true) in
    let more = posted_more c.as_slice-entry-items.result.now c.loop-entry.entry-index (entry 0 0 0) c.args.account c.loop-entry-test.true in
    (omega (arith, ints), omega (arith, ints))

pub returns : goal.returns
returns c = grind (arith, common_steps)
