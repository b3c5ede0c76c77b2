-- The item at a place, stepped.
use Rattle.std.proofs.Common.{◌≡◌, ℕ, ◌+◌, ◌<◌, Bool, true, false, if◌then◌else◌, Option, List, [], length, map}
use Rattle.std.proofs.Common.{get_or, set}
use Rattle.std.proofs.Common.{slice_set, sym, ◌∙◌, ap, subst, arith}
use Rattle.std.proofs.Math.Path.{transport}
use Rattle.std.proofs.lemmas.List.{get_or-map, get_or_default, length-map}
use Rattle.ra_indirect.specs.declared.node.Node.{Node}
use Rattle.ra_memref.specs.Table.{TableSeen}
use Rattle.ra_set.specs.declared.item.Item.{Item}
use Rattle.ra_set.specs.Contents.{ItemContents, item_contents}
use Rattle.ra_items.specs.declared.item_run.ItemRun.{ItemRun}
use Rattle.ra_schedule.specs.Schedules.{as_hits_tell, noted_at, owed_at}
use Rattle.ra_items.specs.declared.rest.ItemCounts.{ItemCounts}
use Rattle.ra_items.specs.declared.rests.Rests.{Rests}
use Rattle.ra_items.specs.AllRuns.{AreItemRuns}
use Rattle.ra_items.specs.ItemRuns.{IsItemRun}
use Rattle.ra_items.specs.Resting.{HasRoom, StepsRest, seen_run}
use Rattle.ra_items.specs.Rests.{IsSteppedAt}
use Rattle.ra_items.specs.RunEvents.{run_events}
use Rattle.ra_items.proofs.RunsLemmas.{run_at}
use Rattle.ra_items.proofs.RestRuns.{seen_as_told}

-- the contents of the item at a place
pub contents_at : (items : List Item) (place : ℕ) (item : Item) (d : ItemContents)
    → place < length items → item ≡ get_or items place item
    → get_or (map item_contents items) place d ≡ item_contents item
contents_at items place item d within is =
    get_or-map item_contents items place item d within ∙ ap item_contents (sym is)

-- the run at a place is that of the item at it
pub own_run : (nodes : List Node) (items : List Item) (runs : List ItemRun) (place : ℕ)
    (item : Item) (run : ItemRun) → place < length items → item ≡ get_or items place item
    → AreItemRuns nodes (map item_contents items) runs → IsItemRun nodes (item_contents item) (get_or runs place run)
own_run nodes items runs place item run within is are =
    subst (λ (i : ItemContents). IsItemRun nodes i (get_or runs place run))
    (contents_at items place item (item_contents item) within is)
    (run_at nodes (map item_contents items) runs are place (item_contents item) run
    (omega (arith, within, length-map items item_contents)))

module _ (table : TableSeen) (items : List Item) (place : ℕ) (olds news : List ItemRun)
    (old new : Rests) (item : Item) (was run : ItemRun) (had before : ItemCounts) (owed : Option ℕ)
    (rests tells : Bool)
    (within : place < length items) (is : item ≡ get_or items place item)
    (within_runs : place < length olds) (within_each : place < length old.each.items)
    (was_is : was ≡ get_or olds place was) (had_is : had ≡ get_or old.each.items place had)
    (owed_is : owed ≡ as_hits_tell (owed_at old.schedule place)) where
  pub stepped_at : news ≡ set olds place run → new.each.items ≡ set old.each.items place before
      → new.schedule ≡ noted_at place rests old.schedule → (rests ≡ true → old.schedule.truths.known ≡ true)
      → new.stepped.items ≡ slice_set old.stepped.items old.count place → new.count
      ≡ old.count + (if tells then 1 else 0)
      → (tells ≡ false → (item : ItemContents) → run_events item run ≡ [])
      → IsItemRun table.nodes (item_contents item) run → HasRoom (item_contents item) before
      → StepsRest table (item_contents item) (seen_run was had owed) rests before run
      → IsSteppedAt table (map item_contents items) place olds news old new
  stepped_at runs each schedule known stepped count silent one room steps = record {
    run = run;
    before = before;
    rests = rests;
    tells = tells;
    runs = runs;
    each = each;
    schedule = schedule;
    known = known;
    stepped = stepped;
    count = count;
    silent = λ no d. silent no (get_or (map item_contents items) place d);
    is = λ d. subst (λ (i : ItemContents). IsItemRun table.nodes i run)
        (sym (contents_at items place item d within is)) one;
    room = λ d. subst (λ (i : ItemContents). HasRoom i before) (sym (contents_at items place item d within is)) room;
    steps = λ d r b.
        let same : was ≡ get_or olds place r = was_is ∙ get_or_default olds place was r within_runs in
        let same_too : had ≡ get_or old.each.items place b =
        had_is ∙ get_or_default old.each.items place had b within_each in
        let seen : seen_run was had owed ≡ seen_run (get_or olds place r)
        (get_or old.each.items place b) (owed_at old.schedule place) =
        ap (seen_run was had) owed_is ∙ seen_as_told was had (owed_at old.schedule place)
        ∙ (λ i. seen_run (same i) (same_too i) (owed_at old.schedule place)) in
        transport (λ i. StepsRest table (sym (contents_at items place item d within is) i)
        (seen i) rests before run) steps;
  }
