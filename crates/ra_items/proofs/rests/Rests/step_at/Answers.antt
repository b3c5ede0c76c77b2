use Rattle.std.proofs.Common.{◌<◌, ◌+◌, ◌&&◌, length, map, get_or, refl, sym, ◌∙◌, ap, subst, arith}
use Rattle.std.proofs.lemmas.List.{get_or_default, length-map}
use Rattle.ra_set.specs.Contents.{ItemContents, item_contents}
use Rattle.ra_schedule.proofs.MembersRest.Frames.{both_true}
use Rattle.ra_schedule.proofs.MembersRest.Turns.{element}
use Rattle.ra_items.specs.declared.rest.ItemCounts.{ItemCounts}
use Rattle.ra_items.specs.Resting.{FitsRun, HasRoom}
use Rattle.ra_items.proofs.Listed.{counted}
use Rattle.ra_items.proofs.RunsLemmas.{length_runs, run_at}
use Rattle.ra_items.proofs.SeenItems.{one_shape}
use Rattle.ra_items.proofs.StepAt.{contents_at, own_run, stepped_at}
use Rattle.ra_items.proofs.rests.Rests.step_at.Goals as goal

pub bounds-runs-place : goal.bounds-runs-place
bounds-runs-place c =
    omega (
      arith,
      c.requires.here,
      length_runs c.args.table.now.nodes (map item_contents c.args.items.now) c.args.runs.now c.requires.runs,
      length-map c.args.items.now item_contents,
    )

pub pay_owed-requires : goal.pay_owed-requires
pay_owed-requires c =
    let nodes = c.args.table.now.nodes in
    let contents = map item_contents c.args.items.now in
    let runs = c.args.runs.now in
    let place = c.args.place in
    let run = c.index-runs-place.result in
    let had = c.index_mut-counts.result.now in
    let within : place < length contents = omega (arith, c.requires.here, length-map c.args.items.now item_contents) in
    let an_item = element contents place within in
    subst (λ (e : ItemCounts). FitsRun e (get_or runs place run)) (sym c.index_mut-counts.ensures.value)
    (one_shape nodes (get_or contents place an_item) (get_or c.args.self.now.each.items place had)
    (get_or runs place run)
    (run_at nodes contents runs c.requires.runs place an_item run within) (c.requires.place.rooms an_item had))

pub step_rest-rests-requires-clause-run : goal.step_rest-rests-requires-clause-run
step_rest-rests-requires-clause-run c =
    let item = c.index-items-place.result in
    let nodes = c.args.table.now.nodes in
    c.pay_owed.ensures.run nodes (item_contents item)
    (own_run nodes c.args.items.now c.args.runs.now c.args.place item c.index-runs-place.result
    c.requires.here c.index-items-place.is c.requires.runs)

pub step_rest-rests-requires-clause-room : goal.step_rest-rests-requires-clause-room
step_rest-rests-requires-clause-room c =
    let items = c.args.items.now in
    let item = c.index-items-place.result in
    let had = c.index_mut-counts.result.now in
    subst (λ (i : ItemContents). HasRoom i had) (contents_at items c.args.place item
    (item_contents item) c.requires.here c.index-items-place.is)
    (subst (λ (b : ItemCounts). HasRoom (get_or (map item_contents items) c.args.place
    (item_contents item)) b) (sym c.index_mut-counts.ensures.value)
    (c.requires.place.rooms (item_contents item) had))

pub returns : goal.returns
returns c =
    let table = c.args.table.now in
    let items = c.args.items.now in
    let contents = map item_contents items in
    let runs = c.args.runs.now in
    let place = c.args.place in
    let item = c.index-items-place.result in
    let run = c.index-runs-place.result in
    let was = get_or runs place run in
    let stepped = c.step_rest-rests in
    let known = c.args.self.now.schedule.truths.known in
    let had = c.index_mut-counts.result.now in
    let within_runs : place < length runs =
    omega (
      arith,
      c.requires.here,
      length_runs table.nodes contents runs c.requires.runs,
      length-map items item_contents,
    ) in
    let within_each : place < length c.args.self.now.each.items =
    omega (arith, c.requires.here, c.requires.place.many, length-map items item_contents) in
    stepped_at table items place runs _ c.args.self.now _ item was stepped.new.run had
    stepped.new.counts c.owed-owed.result (stepped.result && known) c.may_tell.result
    c.requires.here c.index-items-place.is within_runs within_each (get_or_default runs place run
    was within_runs) c.index_mut-counts.ensures.value c.owed-owed.ensures
    refl refl c.note.ensures (λ both. (both_true stepped.result known both).1) refl
    (ap (λ n. c.args.self.now.count + n) (c.from.ensures
    ∙ counted c.may_tell.result)) c.may_tell.ensures stepped.ensures.run stepped.ensures.room
    (record {
      mid = c.pay_owed.new.run;
      is = c.pay_owed.ensures.run table.nodes (item_contents item) (own_run table.nodes items runs
          place item run c.requires.here c.index-items-place.is c.requires.runs);
      kept = c.pay_owed.ensures.kept;
      rested = λ both. stepped.ensures.rests (both_true stepped.result known both).0;
      steps = stepped.ensures.steps;
    })
