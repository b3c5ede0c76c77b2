use Rattle.std.proofs.Common.{◌∙◌, None, get_or, ap}
use Rattle.ra_review.proofs.FirstLemmas.{none_more}
use Rattle.ra_review.proofs.first_lines.make_room.Goals as goal

pub loop-lines-preserved : goal.loop-lines-preserved
loop-lines-preserved c = λ other.
    ap (λ lines. get_or lines other None) c.in_ok-push.ensures.items
    ∙ none_more c.loop-lines.lines.items other ∙ c.loop-lines.invariant other
