use Rattle.std.proofs.Common.{◌≡◌, ◌+◌, ◌<◌, ◌∷◌, ◌++◌, [], length, map, take, get_or, sum_by, sym, ◌∙◌, ap, subst}
use Rattle.std.proofs.Common.{arith}
use Rattle.std.specs.List.{flat_map}
use Rattle.ra_condition.specs.Contents.{part_contents}
use Rattle.ra_condition.specs.Spelled.{IsPart}
use Rattle.ra_chain.specs.Occurrence.{trees_in_part}
use Rattle.ra_set.specs.Limits.{part_conditions}
use Rattle.ra_member.specs.Plans.{IsValuePlan}
use Rattle.ra_member.specs.Plans.{GrowsWithin}
use Rattle.ra_member.proofs.GrowthLemmas.{grows_more, taken_next, holds_at, weight_at}
use Rattle.ra_member.proofs.planning.value_plan.Goals as goal

pub put_part-requires-clause-spelled : goal.put_part-requires-clause-spelled
put_part-requires-clause-spelled c =
    let parts = c.args.text.now.parts.items in
    let k = c.loop-part.part-index in
    let part = c.part-item.result in
    let within : k < length parts = omega (arith, c.deref-part-items.ensures.len) in
    let is : part ≡ get_or parts k part =
    c.part-item.is ∙ ap (λ xs. get_or xs k part) c.deref-part-items.ensures.value in
    holds_at part_contents parts k part within is IsPart c.requires.spelled.each

pub put_part-requires-clause-room : goal.put_part-requires-clause-room
put_part-requires-clause-room c =
    let parts = c.args.text.now.parts.items in
    let k = c.loop-part.part-index in
    let part = c.part-item.result in
    let within : k < length parts = omega (arith, c.deref-part-items.ensures.len) in
    let is : part ≡ get_or parts k part =
    c.part-item.is ∙ ap (λ xs. get_or xs k part) c.deref-part-items.ensures.value in
    omega (
      arith,
      weight_at part_contents parts k part within is part_conditions,
      c.loop-part.invariant.grows.few,
      c.requires.room,
    )

pub loop-part-preserved : goal.loop-part-preserved
loop-part-preserved c =
    let parts = c.args.text.now.parts.items in
    let k = c.loop-part.part-index in
    let part = c.part-item.result in
    let e = c.in_ok-put_part.ensures in
    let before = map part_contents (take k parts) in
    let within : k < length parts = omega (arith, c.deref-part-items.ensures.len) in
    let is : part ≡ get_or parts k part =
    c.part-item.is ∙ ap (λ xs. get_or xs k part) c.deref-part-items.ensures.value in
    let next : map part_contents (take (k + 1) parts) ≡ before ++ part_contents part ∷ [] =
    taken_next part_contents parts k part within is in
    record {
      plan = subst (λ ps. IsValuePlan c.put_part.new.pool ps c.put_part.new.plan) (sym next)
          (e.plan before c.loop-part.invariant.plan);
      grows =
          subst (λ ps. GrowsWithin c.args.pool.now c.put_part.new.pool (flat_map trees_in_part ps)
          (sum_by part_conditions ps)) (sym next)
          (grows_more trees_in_part part_conditions c.args.pool.now c.loop-part.pool
          c.put_part.new.pool before (part_contents part) c.loop-part.invariant.grows e.grows);
    }
