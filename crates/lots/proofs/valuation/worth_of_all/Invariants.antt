use Rattle.std.proofs.Common.{◌≡◌, ◌≤◌, length, take, pos}
use Rattle.slots.specs.Items.{items}
use Rattle.lots.specs.Worth.{worth_of_all}
use Rattle.lots.proofs.valuation.worth_of_all.Given as goal

abbrev pub invariant-loop-l : goal.invariant-loop-l
invariant-loop-l l = record { in_range : l.l-index ≤ length (items l.lots); so_far : l.sum ≡ worth_of_all (pos l.price) (take l.l-index (items l.lots)) }
