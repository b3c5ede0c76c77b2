use Rattle.std.proofs.Common.{List, false, map, slice_index_or, sym, ◌∙◌, ap}
use Rattle.ra_set.specs.Contents.{set_contents}
use Rattle.ra_meaning.specs.Earned.{is_earned}
use Rattle.ra_items.specs.declared.item_run.ItemRun.{ItemRun}
use Rattle.ra_items.specs.ItemRuns.{kept_run}
use Rattle.ra_items.proofs.SeenItems.{rests_earned}
use Rattle.ra_runtime.proofs.course.Course.is_earned.Goals as goal

pub returns : goal.returns
returns c =
    let t = c.self.inside in
    let inv = c.self.invariant in
    let place = c.args.place in
    rw (← c.self.view_is)
    (c.earned_in.ensures
    ∙ ap (λ (runs : List ItemRun). slice_index_or (map is_earned (map kept_run runs)) place false) c.deref.ensures.value
    ∙ ap (λ e. slice_index_or e place false) (sym (rests_earned t.table.nodes t.table.values
    (set_contents t.set).items t.runs.items t.rests inv.runs inv.rests)))
