use Rattle.ra_author_jobs.proofs.PassedReviews.{review-passes}
use Rattle.ra_author_jobs.proofs.laws.reviews_pass_sets.Goals as goal

pub returns : goal.returns
returns c = λ content set file e is says. review-passes content set file e is says
