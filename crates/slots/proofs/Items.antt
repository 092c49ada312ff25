-- How many records a list holds: `take` of the library, at this crate's own number of used slots.
use Rattle.std.proofs.Common.{◌≡◌, ◌≤◌, length, arith}
use Rattle.std.proofs.lemmas.List.{length-take-le}
use Rattle.slots.specs.declared.list.List.{List}
use Rattle.slots.specs.Items.{capacity, used, items}

pub length_items : {T : Type 0} (l : List T) → length (items l) ≡ used l
length_items l = length-take-le (used l) l.slots.now (omega arith)

pub items_fit : {T : Type 0} (l : List T) → length (items l) ≤ capacity l
items_fit l = omega (arith, length_items l)
