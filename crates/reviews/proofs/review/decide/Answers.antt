use Rattle.std.proofs.Common.{arith}
use Rattle.std.proofs.lemmas.Grind.{common_steps}
use Rattle.reviews.proofs.Idle.{idle_by}
use Rattle.reviews.proofs.review.decide.Goals as goal

pub returns-then-exposure-eq0-2 : goal.returns-then-exposure-eq0-2
returns-then-exposure-eq0-2 g c = grind (arith, common_steps, idle_by)
