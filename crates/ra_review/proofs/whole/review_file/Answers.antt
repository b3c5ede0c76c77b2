use Rattle.std.proofs.Common.{option_map, arith, subst}
use Rattle.ra_review.specs.Reporting.{ReportsFront}
use Rattle.ra_review.proofs.ReviewLemmas.{few_items, judges_none, text_within}
use Rattle.ra_review.proofs.whole.review_file.Goals as goal

pub review_behind-requires-clause-size : goal.review_behind-requires-clause-size
review_behind-requires-clause-size c =
    let front = subst (λ o. ReportsFront c.args.bytes.now c.review_front.new.report
    (option_map (λ text. text.now) o)) c.in-Some.is c.in_ok-behind.ensures in
    let within = text_within c.args.bytes.now c.in-Some.text.now c.review_front.new.report front in
    omega (arith, within, c.requires)

pub review_behind-requires-clause-few : goal.review_behind-requires-clause-few
review_behind-requires-clause-few c =
    few_items c.args.bytes.now c.review_front.new.report _ c.requires c.in_ok-behind.ensures

pub finish-requires : goal.finish-requires
finish-requires c = let few = few_items c.args.bytes.now c.review_front.new.report _ c.requires
    c.in_ok-behind.ensures in omega (arith, few)

pub returns : goal.returns
returns c =
    c.in_ok-review-in-None.ensures c.args.bytes.now (judges_none c.args.bytes.now c.review_front.new.report
    (subst (λ o. ReportsFront c.args.bytes.now c.review_front.new.report
    (option_map (λ text. text.now) o)) c.in-None.is c.in_ok-behind.ensures))
