use Rattle.std.proofs.Common.{◌+◌, ◌∙◌, ◌&&◌, ◌||◌, not, length, map, drop, ap, sym, arith}
use Rattle.ra_condition.specs.Contents.{group_contents}
use Rattle.ra_condition.specs.Spelled.{IsTriggerGroup}
use Rattle.ra_member.proofs.GrowthLemmas.{holds_at, weight_at, dropped_next}
use Rattle.ra_notices.proofs.StandingLemmas.{alts_all, alts_next, alts_done}
use Rattle.ra_notices.proofs.groups.review_alts.Goals as goal

pub review_group-requires-clause-spelled : goal.review_group-requires-clause-spelled
review_group-requires-clause-spelled c =
    holds_at group_contents c.args.alts.now c.loop-place.place c.index-alts-place.result
    (omega arith) c.index-alts-place.is
    IsTriggerGroup c.requires.spelled

pub review_group-requires-clause-few : goal.review_group-requires-clause-few
review_group-requires-clause-few c =
    omega (
      arith,
      weight_at group_contents c.args.alts.now c.loop-place.place c.index-alts-place.result
          (omega arith) c.index-alts-place.is length,
      c.requires.few,
    )
