-- the law is a lemma of its own; the check does not find it even with the lemma named on the function (tried), as with the other laws
use Rattle.rules.proofs.Cancelling.{cancels}
use Rattle.rules.proofs.laws.cancels_take_one_order.Goals as goal

pub returns : goal.returns
returns c = cancels
