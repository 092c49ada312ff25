-- What is counted of the lines of a script.
use Rattle.std.specs.Prelude.{ℕ, ◌+◌, min, replicate, slice_index, slice_set}
use Rattle.terms.specs.declared.refusal.Refusal.{Refusal}
use Rattle.terms.specs.Refusals.{number_of}
use Rattle.desk.specs.declared.counts.Counts.{Counts}

-- one more, up to the largest u64
abbrev pub one_more : ℕ → ℕ
one_more n = min (n + 1) 18446744073709551615

abbrev pub none_counted : Counts
none_counted = record { taken = 0; refused = 0; by_number = replicate 26 0; unreadable = 0; early = 0 }

abbrev pub one_taken : Counts → Counts
one_taken c = record { taken = one_more c.taken; refused = c.refused; by_number = c.by_number; unreadable = c.unreadable; early = c.early }

abbrev pub refused_with : Counts → Refusal → ℕ
refused_with c e = slice_index c.by_number (number_of e)

abbrev pub one_refused : Counts → Refusal → Counts
one_refused c e = record { taken = c.taken; refused = one_more c.refused; by_number = slice_set c.by_number (number_of e) (one_more (refused_with c e)); unreadable = c.unreadable; early = c.early }

abbrev pub one_unreadable : Counts → Counts
one_unreadable c = record { taken = c.taken; refused = c.refused; by_number = c.by_number; unreadable = one_more c.unreadable; early = c.early }

abbrev pub one_early : Counts → Counts
one_early c = record { taken = c.taken; refused = c.refused; by_number = c.by_number; unreadable = c.unreadable; early = one_more c.early }
