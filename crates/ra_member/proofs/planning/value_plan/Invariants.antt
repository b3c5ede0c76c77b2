use Rattle.std.proofs.Common.{map, sum_by, take}
use Rattle.std.specs.List.{flat_map}
use Rattle.ra_condition.specs.Contents.{part_contents}
use Rattle.ra_chain.specs.Occurrence.{trees_in_part}
use Rattle.ra_set.specs.Limits.{part_conditions}
use Rattle.ra_member.specs.Plans.{IsValuePlan}
use Rattle.ra_member.specs.Plans.{GrowsWithin}
use Rattle.ra_member.proofs.planning.value_plan.Given as goal

abbrev pub invariant-loop-part : goal.invariant-loop-part
invariant-loop-part l =
    let parts = map part_contents (take l.part-index l.text.parts.items) in
    record {
      plan : IsValuePlan l.pool parts l.plan;
      grows : GrowsWithin l.fn.pool l.pool (flat_map trees_in_part parts) (sum_by part_conditions parts);
    }
