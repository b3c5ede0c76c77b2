use Rattle.std.proofs.Common.{◌≡◌, ◌+◌, ◌<◌, ◌∷◌, ◌++◌, [], length, map, take, get_or, sum_by, sym, ◌∙◌, ap, subst}
use Rattle.std.proofs.Common.{arith}
use Rattle.std.specs.List.{flat_map}
use Rattle.std.proofs.lemmas.List.{append-nil}
use Rattle.std.proofs.lemmas.List.Sums.{sum_by-cons}
use Rattle.ra_condition.specs.declared.setting.Setting.TheVariants.{InTrigger}
use Rattle.ra_condition.specs.Contents.{group_contents}
use Rattle.ra_condition.specs.Spelled.{IsTriggerGroup}
use Rattle.ra_chain.specs.Occurrence.{trees_in_group}
use Rattle.ra_chain.proofs.JoinLemmas.{all_join}
use Rattle.ra_member.specs.Plans.{GrowsWithin}
use Rattle.ra_member.proofs.PlanLemmas.{within_as}
use Rattle.ra_member.proofs.GrowthLemmas.{grows_more, taken_next, holds_at, weight_at}
use Rattle.ra_counts.proofs.planted.plant_trigger.Goals as goal

pub loop-alt-init : goal.loop-alt-init
loop-alt-init c =
    let core = group_contents c.args.text.now.core in
    let trees = trees_in_group core in
    within_as c.args.pool.now c.plant_group.new.pool trees (trees ++ []) (length core) (0 + length core)
    (sym (append-nil trees)) (omega arith) c.in_ok-plant_group.ensures

pub plant_group-requires-in-loop-alt-clause-joins : goal.plant_group-requires-in-loop-alt-clause-joins
plant_group-requires-in-loop-alt-clause-joins c =
    let alts = c.args.text.now.alts.items in
    let k = c.loop-alt.alt-index in
    let alt = c.alt-item.result in
    let within : k < length alts = omega (arith, c.deref-alt-items.ensures.len) in
    let is : alt ≡ get_or alts k alt = c.alt-item.is ∙ ap (λ xs. get_or xs k alt) c.deref-alt-items.ensures.value in
    let spelled = holds_at group_contents alts k alt within is IsTriggerGroup c.requires.spelled.alts in
    all_join InTrigger (group_contents alt) spelled

pub plant_group-requires-in-loop-alt-clause-room : goal.plant_group-requires-in-loop-alt-clause-room
plant_group-requires-in-loop-alt-clause-room c =
    let core = group_contents c.args.text.now.core in
    let alts = c.args.text.now.alts.items in
    let k = c.loop-alt.alt-index in
    let alt = c.alt-item.result in
    let within : k < length alts = omega (arith, c.deref-alt-items.ensures.len) in
    let is : alt ≡ get_or alts k alt = c.alt-item.is ∙ ap (λ xs. get_or xs k alt) c.deref-alt-items.ensures.value in
    let weight = weight_at group_contents alts k alt within is length in
    let first = sum_by-cons length core (map group_contents (take k alts)) in
    let all = sum_by-cons length core (map group_contents alts) in
    omega (arith, weight, c.loop-alt.invariant.few, c.requires.room, first, all)

pub loop-alt-preserved : goal.loop-alt-preserved
loop-alt-preserved c =
    let core = group_contents c.args.text.now.core in
    let alts = c.args.text.now.alts.items in
    let k = c.loop-alt.alt-index in
    let alt = c.alt-item.result in
    let old = c.args.pool.now in
    let mid = c.loop-alt.pool in
    let new = c.plant_group-in-loop-alt.new.pool in
    let groups = core ∷ map group_contents (take k alts) in
    let within : k < length alts = omega (arith, c.deref-alt-items.ensures.len) in
    let is : alt ≡ get_or alts k alt = c.alt-item.is ∙ ap (λ xs. get_or xs k alt) c.deref-alt-items.ensures.value in
    let next : core ∷ map group_contents (take (k + 1) alts) ≡ groups ++ group_contents alt ∷ [] =
    ap (λ gs. core ∷ gs) (taken_next group_contents alts k alt within is) in
    let more = grows_more trees_in_group length old mid new groups (group_contents alt) c.loop-alt.invariant
    c.in_ok-plant_group-2.ensures in
    subst (λ gs. GrowsWithin old new (flat_map trees_in_group gs) (sum_by length gs)) (sym next) more
