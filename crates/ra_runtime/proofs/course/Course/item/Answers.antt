use Rattle.std.proofs.Common.{List, option_map, ◌∙◌, ap}
use Rattle.std.specs.List.{slice_get}
use Rattle.ra_set.specs.Contents.{set_contents}
use Rattle.ra_items.specs.declared.item_run.ItemRun.{ItemRun}
use Rattle.ra_items.specs.ItemStates.{run_state}
use Rattle.ra_items.proofs.SeenItems.{rests_stand}
use Rattle.ra_runtime.proofs.course.Course.item.Goals as goal

pub returns : goal.returns
returns c =
    let t = c.self.inside in
    let inv = c.self.invariant in
    let place = c.args.place in
    rw (← c.self.view_is)
    (c.state_in.ensures
    ∙ ap (λ (runs : List ItemRun). option_map run_state (slice_get runs place)) c.deref.ensures.value
    ∙ rests_stand t.table.nodes t.table.values (set_contents t.set).items t.runs.items t.rests inv.runs inv.rests place)
