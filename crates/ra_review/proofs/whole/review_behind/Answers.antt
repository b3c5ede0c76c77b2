use Rattle.std.proofs.Common.{◌+◌, refl, sym, subst}
use Rattle.ra_review.specs.Reporting.{Judges}
use Rattle.ra_review.proofs.ReviewLemmas.{judges_script}
use Rattle.ra_review.proofs.whole.review_behind.Goals as goal

pub returns : goal.returns
returns c = λ file front.
    c.in_ok-review.ensures file (subst (λ r. Judges file c.review_script.new.report r
    c.in_ok-walked.walked.lines) (sym c.as_ref.ensures.value)
    (judges_script file c.args.text.now c.args.report.now c.review_script.new.report
    c.in_ok-read.read (c.args.report.now.lines + 1) c.in_ok-walked.walked.lines
    refl c.in_ok-walked.ensures.lines front c.in_ok-read.ensures))
