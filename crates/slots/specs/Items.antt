-- What a list over lent slots holds.
use mathlib.Core.List as L
use Rattle.std.specs.Prelude.{ℕ, min, length, take, drop}
use Rattle.slots.specs.declared.list.List.{List}

-- how many records the list can hold: its slots, at most its limit
abbrev pub capacity : {T : Type 0} → List T → ℕ
capacity l = min l.limit (length l.slots.now)

-- how many of the slots hold a record
abbrev pub used : {T : Type 0} → List T → ℕ
used l = min l.len (capacity l)

-- the records, in order
abbrev pub items : {T : Type 0} → List T → L.List T
items l = take (used l) l.slots.now

-- what stands in the other slots
abbrev pub free : {T : Type 0} → List T → L.List T
free l = drop (used l) l.slots.now
