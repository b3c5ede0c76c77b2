use Rattle.std.proofs.Common.{subst}
use Rattle.ra_set.proofs.ScriptLines.{bad-within}
use Rattle.ra_review.specs.Judging.{IsPlaceAfter}
use Rattle.ra_review.proofs.WalkLemmas.{refuses_script}
use Rattle.ra_review.proofs.script.refuse_script.Goals as goal

pub split_at-requires : goal.split_at-requires
split_at-requires c = bad-within c.args.text.now c.args.start c.requires.first_bad

pub returns : goal.returns
returns c =
    let placed = subst (λ t. IsPlaceAfter c.in_ok-walked.walked.display t c.in_ok-place.place)
    c.left_of.ensures c.in_ok-place.ensures in
    refuses_script c.args.number c.args.text.now c.split_at.result.0.now c.split_at.result.1.now
    c.split_line.result.0.now c.split_line.result.1.now
    c.args.start c.in_ok-more.field-0 c.in_ok-place.place c.in_ok-walked.walked c.args.refusals.now c.refuse.new.self
    c.requires c.split_at.ensures.front c.split_at.ensures.back c.in_ok-walked.ensures
    c.split_line.ensures placed c.in_ok-more.ensures c.in_ok-refuse.ensures
