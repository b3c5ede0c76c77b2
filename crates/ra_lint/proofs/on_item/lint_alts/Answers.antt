use Rattle.std.proofs.Common.{◌+◌, not, eqb, length, arith}
use Rattle.ra_condition.specs.Contents.{group_contents}
use Rattle.ra_condition.specs.Spelled.{IsTriggerGroup}
use Rattle.ra_member.proofs.GrowthLemmas.{holds_at, weight_at}
use Rattle.ra_lint.specs.Warnings.{group_warnings, warnings_from}
use Rattle.ra_lint.proofs.RowLemmas.{groups_more, row_taken, dead_taken}
use Rattle.ra_lint.proofs.on_item.lint_alts.Goals as goal

pub lint_group-requires-clause-spelled : goal.lint_group-requires-clause-spelled
lint_group-requires-clause-spelled c =
    holds_at group_contents c.args.alts.now c.loop-place.place c.index-alts-place.result
    (omega arith) c.index-alts-place.is
    IsTriggerGroup c.requires.spelled

pub lint_group-requires-clause-few : goal.lint_group-requires-clause-few
lint_group-requires-clause-few c =
    omega (
      arith,
      weight_at group_contents c.args.alts.now c.loop-place.place c.index-alts-place.result
          (omega arith) c.index-alts-place.is length,
      c.requires.few,
    )

pub loop-place-preserved : goal.loop-place-preserved
loop-place-preserved c =
    let item = c.args.core.item in
    let at = c.args.core.place in
    let alts = c.args.alts.now in
    let place = c.loop-place.place in
    let alt = c.index-alts-place.result in
    let e = c.in_ok-alt_dead.ensures in
    record {
      found =
          row_taken group_contents (warnings_from item at 1) (group_warnings item at) 1
          (groups_more item at 1) alts place alt
          (omega arith) c.index-alts-place.is c.args.found.now.items c.loop-place.found.items
          c.lint_group.new.found.items (place + 1)
          (omega arith) c.loop-place.invariant.found e.all;
      dead =
          dead_taken (not (eqb (length alts) 0)) alts place alt (omega arith) c.index-alts-place.is c.loop-place.dead
          c.in_ok-alt_dead.alt_dead c.loop-place.invariant.dead e.dead;
    }
