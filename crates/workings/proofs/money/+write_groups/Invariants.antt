use Rattle.workings.proofs.money.+write_groups.Given as goal

abbrev pub decreases-write_groups : goal.decreases-write_groups
decreases-write_groups g l = l.n
