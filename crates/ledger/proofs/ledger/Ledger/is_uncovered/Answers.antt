use Rattle.std.proofs.Common.{arith}
use Rattle.std.proofs.lemmas.Grind.{common_steps}
use Rattle.slots.specs.Items.{items}
use Rattle.orders.proofs.Sums.{margin_push}
use Rattle.ledger.proofs.ledger.Ledger.is_uncovered.Goals as goal

-- written out: with the lemma named on the function, the check finds it only near its limits
pub returns : goal.returns
returns g c =
    let l = c.args.self.now in
    let push = margin_push c.args.order.account l.settings.margin_percent c.mark.result.yen (items l.orders.list) c.args.order in
    grind (arith, common_steps, push)
