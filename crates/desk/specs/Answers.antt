-- What the desk counts of a call.
use Rattle.std.specs.Prelude.{cond, Some, None, Option}
use Rattle.terms.specs.declared.refusal.Refusal.{Refusal}
use Rattle.terms.specs.declared.refusal.Refusal.TheVariants.{SettingOutOfRange}
use Rattle.desk.specs.declared.counts.Counts.{Counts}
use Rattle.commands.specs.declared.opening.Request.{Request}
use Rattle.desk.specs.Counting.{one_taken, one_refused}
use Rattle.commands.specs.Openings.{request_lawful}

abbrev pub counted : Option Refusal → Counts → Counts
counted None c = one_taken c
counted (Some e) c = one_refused c e

-- a refused `open` is a refused call; a taken one is no call
abbrev pub open_counted : Request → Counts → Counts
open_counted q c = cond (request_lawful q) c (one_refused c SettingOutOfRange)
