use Rattle.sums.proofs.Sums.{units_at_most}
use Rattle.sums.proofs.units.units_on.Goals as goal

pub returns : goal.returns
returns g c = record {
  value = c.summed.ensures;
  bound = λ most s. rw c.summed.ensures (units_at_most g.T.Sided.account g.T.Sided.side g.T.Sided.quantity c.args.account c.args.side most c.args.records.now s);
}
