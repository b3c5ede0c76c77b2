use Rattle.std.proofs.Common.{List, subst, ℕ}
use Rattle.ra_review.specs.Reporting.{said_by}
use Rattle.ra_review.specs.Reviews.{IsReview}
use Rattle.ra_author_jobs.specs.Expected.{expected_of}
use Rattle.ra_author_jobs.proofs.AnswerLemmas.{review_says}
use Rattle.ra_author_jobs.proofs.reviewing.review_answer.Goals as goal

pub returns-in-Ok-clause-says : goal.returns-in-Ok-clause-says
returns-in-Ok-clause-says g c =
    review_says (g.F.Files.content c.args.files.now) c.args.name.now c.in_ok-bytes.bytes.items
    (said_by c.in-Ok.reviewed) (expected_of c.reviewed_answer.result)
    c.in_ok-bytes.ensures.ok (subst (λ (b : List ℕ). IsReview b (said_by c.in-Ok.reviewed))
    c.as_slice.ensures.value c.in-Ok.ensures) c.reviewed_answer.ensures.says
