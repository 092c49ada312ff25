use Rattle.reviews.proofs.Twice.{judged_twice}
use Rattle.reviews.proofs.review.judgements_all_settle.Goals as goal

pub returns : goal.returns
returns c = judged_twice
