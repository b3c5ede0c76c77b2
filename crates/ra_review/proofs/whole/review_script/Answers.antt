use Rattle.std.proofs.Common.{◌+◌, refl, subst}
use Rattle.ra_richpresence.specs.Texts.{IsRead}
use Rattle.ra_review.proofs.ReviewLemmas.{reviews_bad, reviews_whole}
use Rattle.ra_review.proofs.whole.review_script.Goals as goal

pub returns-in_ok-put_macros-in-Ok : goal.returns-in_ok-put_macros-in-Ok
returns-in_ok-put_macros-in-Ok c = reviews_whole (c.args.report.now.lines + 1) c.args.text.now
    c.args.report.now _ c.in_ok-number.number c.in-Ok.read
    c.in_ok-number.ensures (subst (λ most. IsRead c.args.text.now most c.in-Ok.read) c.most.ensures
    c.in-Ok.ensures.ok) c.in_ok-put_macros-in-Ok.ensures refl refl refl

pub returns-in_ok-refuse_script-in-Err-Syntax : goal.returns-in_ok-refuse_script-in-Err-Syntax
returns-in_ok-refuse_script-in-Err-Syntax c = reviews_bad
    (c.args.report.now.lines + 1) c.args.text.now c.args.report.now _ c.in_ok-number.number
    c.in_ok-number.ensures c.in_ok-refuse_script-in-Err-Syntax.ensures refl refl refl
