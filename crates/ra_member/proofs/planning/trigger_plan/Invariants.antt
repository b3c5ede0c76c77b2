use Rattle.std.proofs.Common.{◌∷◌, map, sum_by, length, take}
use Rattle.std.specs.List.{flat_map}
use Rattle.ra_condition.specs.Contents.{group_contents}
use Rattle.ra_chain.specs.Occurrence.{trees_in_group}
use Rattle.ra_member.specs.Laid.{plan_rows}
use Rattle.ra_member.specs.Plans.{IsPlan}
use Rattle.ra_member.specs.Plans.{GrowsWithin}
use Rattle.ra_member.proofs.planning.trigger_plan.Given as goal

abbrev pub invariant-loop-alt : goal.invariant-loop-alt
invariant-loop-alt l =
    let groups = group_contents l.text.core ∷ map group_contents (take l.alt-index l.text.alts.items) in
    record {
      plan : IsPlan l.pool groups (plan_rows l.plan);
      grows : GrowsWithin l.fn.pool l.pool (flat_map trees_in_group groups) (sum_by length groups);
    }
