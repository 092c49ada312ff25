use Rattle.std.proofs.Common.{◌≡◌, ◌+◌, ◌-◌, ◌^◌, ◌<◌, length, sym, ◌∙◌, arith, rules}
use Rattle.book.specs.Meaning.{Lawful, entered}
use Rattle.book.specs.Running.{running_meaning, lawful_running}
use Rattle.book.specs.Balances.{kept}
use Rattle.book.proofs.Posting.{admitted, transferred_taken, lawful_entered, paid_means}
use Rattle.book.proofs.running.methods.RunningBookBook.transfer.Goals as goal
use Rattle.book.proofs.running.methods.RunningBookBook.transfer.Goals.{After-add-2}

-- what the balances mean after both additions
means : (c : After-add-2) → kept c.add-2.new.balances (c.args.self.now.made + 1) (c.args.self.now.left - 1) ≡ entered (running_meaning c.args.self.now) c.args.payer c.args.payee c.args.amount
means c =
    let b = c.args.self.now in
    let a = admitted b.left c.args.payer c.args.payee c.args.amount (sym c.admit.ensures ∙ c.in_ok-admit.was) in
    let len : length b.balances ≡ 256 = search rules in
    let fits : c.args.amount < 2 ^ 63 = omega arith in
    paid_means b.balances c.args.payer c.args.payee c.args.amount (omega arith) (omega arith) c.add.new.balances c.add-2.new.balances b.made b.left fits c.add.ensures c.add-2.ensures

pub invariant_of-self : goal.invariant_of-self
invariant_of-self c =
    let b = c.args.self.now in
    let a = admitted b.left c.args.payer c.args.payee c.args.amount (sym c.admit.ensures ∙ c.in_ok-admit.was) in
    let l : Lawful (kept c.add-2.new.balances (b.made + 1) (b.left - 1)) =
    rw (means c) (lawful_entered (running_meaning b) c.args.payer c.args.payee c.args.amount (lawful_running b) c.ranges.payer.fits c.ranges.payee.fits a) in
    record { few = l.few; even = l.even; near = l.near }

pub returns-clause-leaves : goal.returns-clause-leaves
returns-clause-leaves c =
    let b = c.args.self.now in
    means (goal.at.returns-clause-leaves c).After-add-2 ∙ sym (transferred_taken (running_meaning b) c.args.payer c.args.payee c.args.amount (sym c.admit.ensures ∙ c.in_ok-admit.was))
