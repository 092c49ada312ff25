use Rattle.std.proofs.Common.{◌≡◌, ◌≤◌, Bool, length}
use Rattle.std.specs.Fn.{FnReturnsAt}
use Rattle.std.proofs.lemmas.List.Filters.{FiltersInPlace}
use Rattle.slots.specs.Items.{items, free, capacity}
use Rattle.slots.proofs.list.List.retain.Given as goal

abbrev pub invariant-loop-i : goal.invariant-loop-i
invariant-loop-i g l =
    ((test : _ → Bool) → ((x : _) (b : Bool) → FnReturnsAt g.F.Fn l.keeps x b → b ≡ test x) → FiltersInPlace test (items l.initial.self) (items l.self) l.count l.i)
    × (free l.self ≡ free l.initial.self)
    × (capacity l.self ≡ capacity l.initial.self)
    × (length (items l.self) ≡ length (items l.initial.self))
    × (l.count ≤ l.i)
