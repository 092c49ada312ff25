use Rattle.reviews.proofs.Twice.{twice}
use Rattle.reviews.proofs.review.reviews_all_settle.Goals as goal

pub returns : goal.returns
returns c = twice
