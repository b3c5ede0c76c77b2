use Rattle.std.proofs.Common.{◌≡◌, ◌<◌, List, length, take, map, get_or, sym, ◌∙◌, ap, subst, arith}
use Rattle.std.proofs.lemmas.List.{take_all}
use Rattle.ra_progress.specs.Contents.{ItemsFit, KeptItem}
use Rattle.ra_display.proofs.Putting.{puts_nothing}
use Rattle.ra_schedule.specs.Schedules.{owed_at}
use Rattle.ra_schedule.proofs.MembersRest.SeenAll.{seen_at}
use Rattle.ra_items.specs.declared.item_run.ItemRun.{ItemRun}
use Rattle.ra_items.specs.declared.rest.ItemCounts.{ItemCounts}
use Rattle.ra_items.specs.Resting.{FitsRun, seen_run}
use Rattle.ra_items.specs.Rests.{seen_by}
use Rattle.ra_items.specs.Shapes.{run_shape}
use Rattle.ra_items.proofs.KeptItems.{block_more, block_room, blocks_all}
use Rattle.ra_items.proofs.SeenItems.{fitting_at}
use Rattle.ra_items.proofs.RestRuns.{seen_as_told}
use Rattle.ra_items.proofs.SaveLemmas.{seen_fit_more}
use Rattle.ra_items.proofs.SeenItems.{seen_long}
use Rattle.ra_items.proofs.keeping.keep_runs.Goals as goal

pub keep_item-next-requires-clause-fits : goal.keep_item-next-requires-clause-fits
keep_item-next-requires-clause-fits c =
    let befores = c.args.rests.now.each.items in
    let b = c.index.result.now in
    let run = c.index-runs-place.result in
    let at = fitting_at c.loop-place.place c.args.runs.now befores run b
    (omega (arith, c.loop-place-test.true)) c.requires.fit in
    subst (λ (e : ItemCounts). FitsRun e run) (sym c.index.ensures)
    (subst (FitsRun (get_or befores c.loop-place.place b)) (sym c.index-runs-place.is) at)

pub keep_item-next-requires-clause-room : goal.keep_item-next-requires-clause-room
keep_item-next-requires-clause-room c =
    let p = c.loop-place in
    let runs = c.args.runs.now in
    let rests = c.args.rests.now in
    let below : p.place < length runs = omega (arith, c.loop-place-test.true) in
    block_room runs (seen_by runs rests) p.place c.args.row.now p.row c.args.at p.next
    (omega (arith, below, seen_long runs rests c.requires.many)) p.invariant.puts
    c.index-runs-place.result below c.index-runs-place.is p.invariant.fit c.requires.room

pub loop-place-init : goal.loop-place-init
loop-place-init c = record { puts = puts_nothing c.args.row.now c.args.at; fit = tt }

pub loop-place-preserved : goal.loop-place-preserved
loop-place-preserved c =
    let p = c.loop-place in
    let runs = c.args.runs.now in
    let rests = c.args.rests.now in
    let k = p.place in
    let run = c.index-runs-place.result in
    let b = c.index.result.now in
    let below : k < length runs = omega (arith, c.loop-place-test.true) in
    let kept = seen_by runs rests in
    let one = seen_run run b c.owed-owed.result in
    let within : k < length kept = omega (arith, below, seen_long runs rests c.requires.many) in
    let there : get_or kept k one ≡ one =
    seen_at ItemRun ItemCounts KeptItem seen_run
    (owed_at rests.schedule) k runs rests.each.items run b one below c.requires.many
    ∙ (λ i. seen_run (sym c.index-runs-place.is i) (sym c.index.ensures i) (owed_at rests.schedule k))
    ∙ sym (ap (seen_run run b) c.owed-owed.ensures ∙ seen_as_told run b (owed_at rests.schedule k)) in
    record {
      puts = block_more runs kept k c.args.row.now p.row c.args.at p.next within p.invariant.puts
          one c.keep_item-next.new.row c.keep_item-next.result there c.keep_item-next.ensures.puts;
      fit = seen_fit_more runs kept k run one below within c.index-runs-place.is there
          p.invariant.fit c.keep_item-next.ensures.fits;
    }

pub returns-clause-puts : goal.returns-clause-puts
returns-clause-puts c =
    let p = c.loop-place in
    let runs = c.args.runs.now in
    let kept = seen_by runs c.args.rests.now in
    blocks_all kept p.place c.args.row.now p.row c.args.at p.next
    (omega (arith, c.loop-place-test.false, seen_long runs c.args.rests.now c.requires.many))
    p.invariant.puts

pub returns-clause-fit : goal.returns-clause-fit
returns-clause-fit c =
    let p = c.loop-place in
    let runs = c.args.runs.now in
    let rests = c.args.rests.now in
    let over = c.loop-place-test.false in
    let kept = seen_by runs rests in
    let all = take_all p.place runs (omega (arith, over)) in
    let all_kept = take_all p.place kept (omega (arith, over, seen_long runs rests c.requires.many)) in
    subst (λ (rs : List ItemRun). ItemsFit (map run_shape rs) kept) all
    (subst (ItemsFit (map run_shape (take p.place runs))) all_kept p.invariant.fit)
