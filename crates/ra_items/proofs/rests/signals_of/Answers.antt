use Rattle.std.proofs.Common.{◌≡◌, ◌<◌, length, map, get_or, sym, ◌∙◌, ap, subst, arith}
use Rattle.std.proofs.lemmas.List.{length-map}
use Rattle.ra_set.specs.Contents.{ItemContents, item_contents}
use Rattle.ra_schedule.specs.Inputs.{Instant}
use Rattle.ra_schedule.specs.Signals.{AreSignals, SignalsSeen}
use Rattle.ra_schedule.proofs.MembersRest.SeenAll.{no_signals, signals_on}
use Rattle.ra_schedule.proofs.MembersRest.Woken.{told_still}
use Rattle.ra_items.specs.declared.item_run.ItemRun.{ItemRun}
use Rattle.ra_items.specs.ItemRuns.{IsItemRun}
use Rattle.ra_items.specs.Resting.{IsToldOf, ItemSeesSame}
use Rattle.ra_items.specs.Rests.{AreItemsTold}
use Rattle.ra_items.proofs.RunsLemmas.{length_runs, run_at}
use Rattle.ra_items.proofs.StepAt.{contents_at}
use Rattle.ra_items.proofs.rests.signals_of.Goals as goal

pub loop-place-init : goal.loop-place-init
loop-place-init c =
    let made = c.in_ok-signals.ensures in
    no_signals c.args.table.now.nodes (AreItemsTold c.args.table.now.nodes
    (map item_contents c.args.items.now)) (length c.args.items.now) c.in_ok-signals.signals
    (c.requires.nodes ∙ sym (ap (λ (s : SignalsSeen). s.nodes) made))
    (ap (λ (s : SignalsSeen). s.comparisons) made) (ap (λ (s : SignalsSeen). s.readers.due) made)

pub bounds-runs-place : goal.bounds-runs-place
bounds-runs-place c =
    omega (
      arith,
      c.loop-place-test.true,
      length_runs c.args.table.now.nodes (map item_contents c.args.items.now) c.args.runs.now c.requires.runs,
      length-map c.args.items.now item_contents,
    )

pub overflow_cast-place : goal.overflow_cast-place
overflow_cast-place c = omega (arith, c.loop-place-test.true, c.requires.few)

pub note_item-requires-clause-run : goal.note_item-requires-clause-run
note_item-requires-clause-run c =
    let nodes = c.args.table.now.nodes in
    let items = c.args.items.now in
    let place = c.loop-place.place in
    let item = c.index-items-place.result in
    let run = c.index-runs-place.result in
    let here : place < length (map item_contents items) =
    omega (arith, c.loop-place-test.true, length-map items item_contents) in
    subst (λ (i : ItemContents). IsItemRun nodes i run) (contents_at items place item
    (item_contents item) c.loop-place-test.true c.index-items-place.is)
    (subst (λ (r : ItemRun). IsItemRun nodes
    (get_or (map item_contents items) place (item_contents item)) r) (sym c.index-runs-place.is)
    (run_at nodes (map item_contents items) c.args.runs.now c.requires.runs place (item_contents item) run here))

pub loop-place-preserved : goal.loop-place-preserved
loop-place-preserved c =
    let nodes = c.args.table.now.nodes in
    let items = c.args.items.now in
    let place = c.loop-place.place in
    let item = c.index-items-place.result in
    let first = c.loop-place.signals in
    let last = c.note_item.new.signals in
    let one = c.in_ok-note_item.ensures in
    signals_on nodes (AreItemsTold nodes (map item_contents items))
    (length items) first last place c.loop-place.invariant one.keeps
    (λ k told d. told_still (λ (now later : Instant). ItemSeesSame now later
    (get_or (map item_contents items) k d)) nodes first.comparisons last.comparisons first.readers
    last.readers k one.keeps.front one.keeps.kept (told d))
    (λ d. subst (λ (i : ItemContents). IsToldOf nodes last.comparisons last.readers i place)
    (sym (contents_at items place item d c.loop-place-test.true c.index-items-place.is)) one.told)

pub returns : goal.returns
returns c =
    let nodes = c.args.table.now.nodes in
    let items = c.args.items.now in
    let all : c.loop-place.place ≡ length items = omega (arith, c.loop-place-test.false, c.loop-place.auto.place-end) in
    subst (AreSignals nodes (AreItemsTold nodes (map item_contents items))
    (length items) c.loop-place.signals) all c.loop-place.invariant
