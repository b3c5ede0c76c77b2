use Rattle.ra_review.proofs.ReviewedSets.{reviewed_set, set_reviewed}
use Rattle.ra_review.proofs.laws.sets_are_not_refused.Goals as goal

pub returns : goal.returns
returns c = λ file said h. (reviewed_set file said h, set_reviewed file said h)
