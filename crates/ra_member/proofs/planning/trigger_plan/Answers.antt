use Rattle.std.proofs.Common.{◌≡◌, ◌+◌, ◌<◌, ◌∷◌, ◌++◌, [], length, map, take, get_or, sum_by, sym, ◌∙◌, ap, subst}
use Rattle.std.proofs.Common.{arith}
use Rattle.std.specs.List.{flat_map}
use Rattle.std.proofs.lemmas.List.{append-nil}
use Rattle.std.proofs.lemmas.List.Sums.{sum_by-cons}
use Rattle.ra_condition.specs.declared.setting.Setting.TheVariants.{InTrigger}
use Rattle.ra_condition.specs.Contents.{group_contents}
use Rattle.ra_condition.specs.Spelled.{IsTriggerGroup}
use Rattle.ra_chain.specs.Occurrence.{trees_in_group}
use Rattle.ra_chain.proofs.JoinLemmas.{all_join}
use Rattle.ra_member.specs.Laid.{plan_rows}
use Rattle.ra_member.specs.Plans.{IsPlan}
use Rattle.ra_member.specs.Plans.{GrowsWithin}
use Rattle.ra_member.proofs.PlanLemmas.{within_as}
use Rattle.ra_member.proofs.GrowthLemmas.{grows_more, taken_next, holds_at, weight_at}
use Rattle.ra_member.proofs.planning.trigger_plan.Goals as goal

pub loop-alt-init : goal.loop-alt-init
loop-alt-init c =
    let e = c.in_ok-plan.ensures in
    let core = group_contents c.args.text.now.core in
    record {
      plan = e.plan;
      grows = within_as c.args.pool.now c.group_plan.new.pool (trees_in_group core)
          (trees_in_group core ++ []) (length core) (0 + length core)
          (sym (append-nil (trees_in_group core))) (omega arith) e.grows;
    }

pub put_group-requires-clause-joins : goal.put_group-requires-clause-joins
put_group-requires-clause-joins c =
    let alts = c.args.text.now.alts.items in
    let k = c.loop-alt.alt-index in
    let alt = c.alt-item.result in
    let within : k < length alts = omega (arith, c.deref-alt-items.ensures.len) in
    let is : alt ≡ get_or alts k alt = c.alt-item.is ∙ ap (λ xs. get_or xs k alt) c.deref-alt-items.ensures.value in
    all_join InTrigger (group_contents alt)
    (holds_at group_contents alts k alt within is IsTriggerGroup c.requires.spelled.alts)

pub put_group-requires-clause-room : goal.put_group-requires-clause-room
put_group-requires-clause-room c =
    let core = group_contents c.args.text.now.core in
    let alts = c.args.text.now.alts.items in
    let k = c.loop-alt.alt-index in
    let alt = c.alt-item.result in
    let within : k < length alts = omega (arith, c.deref-alt-items.ensures.len) in
    let is : alt ≡ get_or alts k alt = c.alt-item.is ∙ ap (λ xs. get_or xs k alt) c.deref-alt-items.ensures.value in
    omega (
      arith,
      weight_at group_contents alts k alt within is length,
      c.loop-alt.invariant.grows.few,
      c.requires.room,
      sum_by-cons length core (map group_contents (take k alts)),
      sum_by-cons length core (map group_contents alts),
    )

pub loop-alt-preserved : goal.loop-alt-preserved
loop-alt-preserved c =
    let core = group_contents c.args.text.now.core in
    let alts = c.args.text.now.alts.items in
    let k = c.loop-alt.alt-index in
    let alt = c.alt-item.result in
    let e = c.in_ok-put_group.ensures in
    let groups = core ∷ map group_contents (take k alts) in
    let within : k < length alts = omega (arith, c.deref-alt-items.ensures.len) in
    let is : alt ≡ get_or alts k alt = c.alt-item.is ∙ ap (λ xs. get_or xs k alt) c.deref-alt-items.ensures.value in
    let next : core ∷ map group_contents (take (k + 1) alts) ≡ groups ++ group_contents alt ∷ [] =
    ap (λ gs. core ∷ gs) (taken_next group_contents alts k alt within is) in
    record {
      plan = subst (λ gs. IsPlan c.put_group.new.pool gs (plan_rows c.put_group.new.plan)) (sym next)
          (e.plan groups c.loop-alt.invariant.plan);
      grows =
          subst (λ gs. GrowsWithin c.args.pool.now c.put_group.new.pool (flat_map trees_in_group gs)
          (sum_by length gs)) (sym next)
          (grows_more trees_in_group length c.args.pool.now c.loop-alt.pool c.put_group.new.pool
          groups (group_contents alt) c.loop-alt.invariant.grows e.grows);
    }
