use Rattle.std.proofs.Common.{sym, refl, arith, rules}
use Rattle.std.proofs.lemmas.List.{get_or-replicate, take_all}
use Rattle.sums.proofs.Sums.{folded_more}
use Rattle.sums.proofs.accounts.by_account.Goals as goal

pub loop-r-init : goal.loop-r-init
loop-r-init g c = record { in_range = omega arith; accounts = refl; folded = λ a d j. sym (get_or-replicate 256 a c.args.nought d j) }

pub add-requires : goal.add-requires
add-requires g c =
    c.requires c.loop-r.r-index c.r-item.result _ c.loop-r-test.true c.r-item.is
    (rw (sym c.account-a.ensures) (c.loop-r.invariant.folded c.account-a.result c.index-sums-a.result c.account-a.type_inv))

pub loop-r-preserved : goal.loop-r-preserved
loop-r-preserved g c = record {
  in_range = omega arith;
  accounts = search rules;
  folded = rw c.account-a.ensures (folded_more g.T.Sided.account _ c.args.nought c.args.records.now c.loop-r.r-index c.r-item.result c.loop-r.sums c.index-sums-a.result c.add.result c.loop-r-test.true c.r-item.is (rw (sym c.account-a.ensures) (omega (arith, c.loop-r.invariant.accounts))) c.loop-r.invariant.folded (rw (sym c.account-a.ensures) c.add.ensures));
}

pub returns : goal.returns
returns g c = λ a j. rw (sym (take_all c.loop-r.r-index c.args.records.now c.loop-r-test.false)) (c.loop-r.invariant.folded a c.args.nought j)
