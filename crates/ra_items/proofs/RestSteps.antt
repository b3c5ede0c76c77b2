-- The items that are due, stepped one after the other: what is seen of all of them after a frame.
use Rattle.std.proofs.Common.{◌≡◌, inl, inr, ℕ, zero, suc, ◌+◌, ◌-◌, ◌<◌, ◌≤◌, not, Bool, true, false, Option, None}
use Rattle.std.proofs.Common.{Some, IfSome, if◌then◌else◌, List, [], ◌∷◌, ◌++◌, length, take, get_or, set}
use Rattle.std.proofs.Common.{slice_index_or, refl, sym, ◌∙◌, ap, subst, arith, append_assoc}
use Rattle.std.proofs.Math.Path.{transport}
use Rattle.std.proofs.lemmas.List.{append-nil, get_or-set_same, get_or-set_other, length-set, length-take-le, take_all}
use Rattle.std.proofs.lemmas.List.{take_more}
use Rattle.std.proofs.lemmas.List.Concat.{flat_map-append}
use Rattle.ra_indirect.specs.declared.node.Node.{Node}
use Rattle.ra_memref.specs.Flags.{NoneSet, IsFirstSet}
use Rattle.ra_memref.specs.Table.{TableSeen}
use Rattle.ra_schedule.specs.Inputs.{Instant}
use Rattle.ra_schedule.specs.Schedules.{Begins, ScheduleSeen, frames_since, is_due, next_count, owed_at, since_at}
use Rattle.ra_schedule.specs.Waking.{AreChanged}
use Rattle.ra_schedule.proofs.MembersRest.Frames.{AreUnderWay, IsAlong, IsDone, Place, Took, along_begins, along_on}
use Rattle.ra_schedule.proofs.MembersRest.Frames.{done_now, heard_after, place_of, still_owed, still_there, took_frame}
use Rattle.ra_schedule.proofs.MembersRest.Frames.{under_way_on}
use Rattle.ra_schedule.proofs.MembersRest.Woken.{told_by_rows}
use Rattle.ra_truths.specs.Truths.{TruthsSeen}
use Rattle.ra_schedule.proofs.MembersRest.SeenAll.{all_steps, seen_at, seen_many}
use Rattle.ra_schedule.proofs.MembersRest.Turns.{element, taken_begins}
use Rattle.ra_set.specs.Contents.{ItemContents}
use Rattle.ra_progress.specs.Contents.{KeptItem}
use Rattle.ra_items.specs.declared.item_run.ItemRun.{ItemRun}
use Rattle.ra_items.specs.declared.rest.ItemCounts.{ItemCounts}
use Rattle.ra_items.specs.declared.rests.Rests.{Rests}
use Rattle.ra_items.specs.declared.rooms.Rooms.{Rooms}
use Rattle.ra_items.specs.AllRuns.{AreItemRuns, all_events}
use Rattle.ra_items.specs.ItemRuns.{IsItemRun}
use Rattle.ra_items.specs.Resting.{GoesOn, HasRoom, ItemSeesSame, StepsRest, seen_run}
use Rattle.ra_items.specs.Rests.{AreRests, AreSteppedSeen, AreTold, HasPlace, IsSomeFrame, IsSteppedAt, StepsItems}
use Rattle.ra_items.specs.Rests.{StepsTold, due_below, events_at, events_of, maybe_events, seen_by}
use Rattle.ra_items.specs.RunEvents.{run_events}
use Rattle.ra_meaning.specs.Earned.{is_earned}
use Rattle.ra_meaning.specs.Openings.{item_after}
use Rattle.ra_meaning.specs.Play.{item_events, unless_earned}
use Rattle.ra_items.proofs.ItemsRest.{item_rests}
use Rattle.ra_items.proofs.Listed.{AreBelow, below_both, below_further, due_is_below, events_here, few_listed}
use Rattle.ra_items.proofs.Listed.{listed, listed_events, one_below, there}
use Rattle.ra_items.proofs.RunsLemmas.{length_runs}
use Rattle.ra_items.proofs.SkippedItems.{still_on, skipped}

-- what stands at the place of an item
pub record ItemSpot : Type 0 where
  pub run : ItemRun
  pub before : ItemCounts

abbrev pub spots : List ItemRun → Rests → ItemRun → ItemCounts → ℕ → ItemSpot
spots runs rests r b k = record { run = get_or runs k r; before = get_or rests.each.items k b }

abbrev pub spot_seen : ItemSpot → Option ℕ → KeptItem
spot_seen s owed = seen_run s.run s.before owed

-- an item takes a frame, and there is room beside it
abbrev pub SpotSteps : TableSeen → ItemContents → (old new : KeptItem) → ItemSpot → Type 0
SpotSteps table item old new s = StepsTold table item old new s.run × HasRoom item s.before

abbrev pub SpotOn : TableSeen → ItemContents → ItemSpot → Type 0
SpotOn table item s = GoesOn table.nodes table.values item s.before s.run

abbrev pub ItemTook : TableSeen → List ItemContents → ItemContents → List ItemRun → Rests → ItemRun
    → ItemCounts → ℕ → Place ItemSpot → Type 0
ItemTook table items item olds before r b =
    Took before.schedule ItemSpot KeptItem spot_seen (λ k. SpotSteps table (get_or items k item))
    (λ k. SpotOn table (get_or items k item)) (spots olds before r b)

-- the items below a place are gone through: those that were due are stepped, and all others are as they were
pub record IsFar (table : TableSeen) (items : List ItemContents) (olds : List ItemRun) (before
    : Rests) (start : ScheduleSeen) (runs : List ItemRun) (rests : Rests) (at : ℕ) : Type 0 where
  pub runs_too : AreItemRuns table.nodes items runs
  pub each_many : length rests.each.items ≡ length items
  pub room : length rests.stepped.items ≡ length items
  pub within : at ≤ length items
  pub count : rests.count ≤ at
  pub below : AreBelow at (take rests.count rests.stepped.items)
  pub told : events_of items runs (take rests.count rests.stepped.items)
      ≡ events_of items runs (due_below start.readers.due at)
  pub along : IsAlong start rests.schedule
  pub under_way : (item : ItemContents) (r : ItemRun) (b : ItemCounts)
      → AreUnderWay ItemSpot (ItemTook table items item olds before r b) start
      (spots olds before r b) rests.schedule (spots runs rests r b) at

-- an item that was stepped took the frame
item_done : (table : TableSeen) → IsSomeFrame table → (item : ItemContents) (next : ℕ)
    (old : KeptItem) (s : ItemSpot) (rests : Bool) → IsItemRun table.nodes item s.run
    → HasRoom item s.before
    → StepsRest table item old rests s.before s.run
    → IsDone ItemSpot KeptItem spot_seen (SpotSteps table item) (SpotOn table item) next old
    (record { spot = s; since = if rests then Some next else None; due = not rests })
item_done table frame item next old s rests is room steps =
    done_now ItemSpot KeptItem spot_seen (SpotSteps table item) (SpotOn table item) next old s rests (
      record {
        kept = λ start image has. steps.steps.kept start image has
            ∙ ap (λ k. item_after start (image ∷ []) (item, k)) steps.kept;
        events = λ start image has. steps.steps.events start image has ∙ ap
            (λ k. unless_earned (item_events start image []) (is_earned k, (item, k))) steps.kept;
      },
      room,
    )
    (λ yes. item_rests table item s.before steps.mid s.run steps.is is steps.steps
    (steps.rested yes) frame.start frame.image frame.has)

-- the places below one that are due, where none from another one on is
due_gap : (due : List Bool) (from count : ℕ) → NoneSet due from (from + count)
    → due_below due (from + count) ≡ due_below due from
due_gap due from zero none = let same : from + 0 ≡ from = omega arith in ap (due_below due) same
due_gap due from (suc count) none =
    let more : from + suc count ≡ suc (from + count) = omega arith in
    let quiet : slice_index_or due (from + count) true ≡ false = none (from + count) (omega arith) (omega arith) in
    ap (due_below due) more
    ∙ ap (λ b. due_below due (from + count) ++ (if b then (from + count) ∷ [] else [])) quiet
    ∙ append-nil (due_below due (from + count))
    ∙ due_gap due from count (λ k after within. none k after (omega arith))

due_between : (due : List Bool) (from to : ℕ) → from ≤ to → NoneSet due from to → due_below due to ≡ due_below due from
due_between due from to order none =
    let there : to ≡ from + (to - from) = omega (arith, order) in
    ap (due_below due) there ∙ due_gap due from (to - from) (subst (NoneSet due from) there none)

due_more : (due : List Bool) (k : ℕ) → slice_index_or due k true ≡ true → due_below due (k + 1)
    ≡ due_below due k ++ k ∷ []
due_more due k is =
    let more : k + 1 ≡ suc k = omega arith in
    ap (due_below due) more ∙ ap (λ b. due_below due k ++ (if b then k ∷ [] else [])) is

-- runs of which one is another one
runs_set : (nodes : List Node) (items : List ItemContents) (runs : List ItemRun) (k : ℕ)
    (run : ItemRun) → AreItemRuns nodes items runs
    → ((item : ItemContents) → IsItemRun nodes (get_or items k item) run) → AreItemRuns nodes items (set runs k run)
runs_set nodes [] [] k run are is = tt
runs_set nodes [] (r ∷ runs) k run are is = absurd are
runs_set nodes (item ∷ items) [] k run are is = absurd are
runs_set nodes (item ∷ items) (r ∷ runs) zero run are is = (is item, are.1)
runs_set nodes (item ∷ items) (r ∷ runs) (suc k) run are is = (are.0, runs_set nodes items runs k run are.1 is)

-- the events of items, one more of them
events_more : (items : List ItemContents) (runs : List ItemRun) (item : ItemContents)
    (run : ItemRun) → length runs ≡ length items → all_events (items ++ item ∷ [])
    (runs ++ run ∷ []) ≡ all_events items runs ++ run_events item run
events_more [] [] item run long = append-nil (run_events item run)
events_more [] (r ∷ runs) item run long = absurd (omega (arith, long))
events_more (i ∷ items) [] item run long = absurd (omega (arith, long))
events_more (i ∷ items) (r ∷ runs) item run long =
    ap (λ xs. run_events i r ++ xs) (events_more items runs item run (omega (arith, long)))
    ∙ sym (append_assoc (run_events i r) (all_events items runs) (run_events item run))

-- where those that are not due tell nothing, the events of all items are those of the ones that are due
module _ (table : TableSeen) (items : List ItemContents) (runs : List ItemRun) (due : List Bool)
    (long : length runs ≡ length items)
    (quiet : (k : ℕ) → k < length items → slice_index_or due k true ≡ false → (item : ItemContents)
    (r : ItemRun) → run_events (get_or items k item) (get_or runs k r) ≡ []) where
  all_told : (k : ℕ) → k ≤ length items → all_events (take k items) (take k runs)
      ≡ events_of items runs (due_below due k)
  all_told zero within = refl
  all_told (suc k) within = by_due (all_told k (omega (arith, within))) (slice_index_or due k true) refl
    where
      Before : Type 0
      Before = all_events (take k items) (take k runs) ≡ events_of items runs (due_below due k)

      item : ItemContents
      item = element items k (omega (arith, within))

      run : ItemRun
      run = element runs k (omega (arith, within, long))

      one_more : Before → all_events (take (suc k) items) (take (suc k) runs) ≡ events_of items runs
          (due_below due k) ++ run_events (get_or items k item) (get_or runs k run)
      one_more before =
          let next : suc k ≡ k + 1 = omega arith in
          (λ i. all_events (take (next i) items) (take (next i) runs))
          ∙ (λ i. all_events (take_more items k item (omega (arith, within)) i)
          (take_more runs k run (omega (arith, within, long)) i))
          ∙ events_more (take k items) (take k runs) (get_or items k item) (get_or runs k run)
          (length-take-le k runs (omega (arith, within, long))
          ∙ sym (length-take-le k items (omega (arith, within))))
          ∙ ap (λ xs. xs ++ run_events (get_or items k item) (get_or runs k run)) before

      by_due : Before → (b : Bool) → slice_index_or due k true ≡ b → all_events (take (suc k) items)
          (take (suc k) runs) ≡ events_of items runs (due_below due (suc k))
      by_due before true is =
          one_more before
          ∙ ap (λ xs. events_of items runs (due_below due k) ++ xs)
          (sym ((λ i. maybe_events (there items k item (omega (arith, within)) i)
          (there runs k run (omega (arith, within, long)) i)))
          ∙ sym (append-nil (events_at items runs k)))
          ∙ sym (flat_map-append (events_at items runs) (due_below due k) (k ∷ []))
          ∙ ap (λ b. events_of items runs (due_below due k ++ (if b then k ∷ [] else []))) (sym is)
      by_due before false is =
          one_more before
          ∙ ap (λ xs. events_of items runs (due_below due k) ++ xs) (quiet k (omega (arith, within)) is item run)
          ∙ append-nil (events_of items runs (due_below due k))
          ∙ ap (events_of items runs) (sym (append-nil (due_below due k)))
          ∙ ap (λ b. events_of items runs (due_below due k ++ (if b then k ∷ [] else []))) (sym is)

module _ (table : TableSeen) (frame : IsSomeFrame table) (items : List ItemContents)
    (olds : List ItemRun) (before : Rests) (start : ScheduleSeen) (values : List ℕ)
    (were : AreRests table.nodes values items olds before) (were_runs : AreItemRuns table.nodes
    items olds) (begun : Begins table before.schedule start) where
  abbrev Far : List ItemRun → Rests → ℕ → Type 0
  Far runs rests at = IsFar table items olds before start runs rests at

  pub far_begins : (rooms : Rooms) → Far olds
      (record { each = before.each; schedule = start; stepped = before.stepped; count = 0; rooms = rooms }) 0
  far_begins rooms = record {
    runs_too = were_runs;
    each_many = were.many;
    room = were.room;
    within = omega arith;
    count = omega arith;
    below = tt;
    told = refl;
    along = along_begins start begun.awake;
    under_way = λ item r b. taken_begins (Place ItemSpot) start.readers.due (place_of ItemSpot start
        (spots olds before r b)) (ItemTook table items item olds before r b);
  }

  module _ (runs : List ItemRun) (rests : Rests) (at : ℕ) (far : Far runs rests at) where
    due_many : length rests.schedule.readers.due ≡ length items
    due_many = far.along.due_many ∙ begun.woken.long ∙ were.at_rest.due_many

    since_many : length rests.schedule.since ≡ length items
    since_many = far.along.since_many ∙ ap length begun.since ∙ were.at_rest.since_many

    runs_many : length runs ≡ length items
    runs_many = length_runs table.nodes items runs far.runs_too

    module _ (place : ℕ) (first : IsFirstSet rests.schedule.readers.due at place) where
      pub here : place < length items
      here = omega (arith, first.within, due_many)

      an_item : ItemContents
      an_item = element items place here

      a_run_here : ItemRun
      a_run_here = element runs place (omega (arith, here, runs_many))

      a_before_here : ItemCounts
      a_before_here = element rests.each.items place (omega (arith, here, far.each_many))

      there_still : (item : ItemContents) (r : ItemRun) (b : ItemCounts)
          → place_of ItemSpot rests.schedule (spots runs rests r b) place
          ≡ place_of ItemSpot start (spots olds before r b) place
      there_still item r b =
          still_there ItemSpot (ItemTook table items item olds before r b) start
          (spots olds before r b) rests.schedule (spots runs rests r b) at place far.along
          (far.under_way item r b) first

      pub place_here : HasPlace items rests place
      place_here = record {
        many = far.each_many;
        due = due_many;
        room = far.room;
        few = omega (arith, far.count, first.after, here);
        rooms = λ item b. subst (λ (p : Place ItemSpot). HasRoom (get_or items place item)
            p.spot.before) (sym (there_still item a_run_here b)) (were.rooms place here item b);
      }

      same_due : (k : ℕ) → at ≤ k → is_due rests.schedule k ≡ is_due start k
      same_due k late = ap (λ (p : Place ItemSpot). p.due)
          ((far.under_way an_item a_run_here a_before_here).same k (inl late))

      module _ (news : List ItemRun) (after : Rests) (steps : IsSteppedAt table items place runs news rests after) where
        new_spot : (r : ItemRun) (b : ItemCounts)
            → record { run = steps.run; before = steps.before } ≡ spots news after r b place
        new_spot r b =
            let run = sym (ap (λ rs. get_or rs place r) steps.runs
            ∙ get_or-set_same runs place steps.run r (omega (arith, here, runs_many))) in
            let had = sym (ap (λ bs. get_or bs place b) steps.each ∙ get_or-set_same
            rests.each.items place steps.before b (omega (arith, here, far.each_many))) in
            (λ i. record { run = run i; before = had i })

        other_spot : (r : ItemRun) (b : ItemCounts) (k : ℕ) → (k ≡ place → ⊥)
            → spots news after r b k ≡ spots runs rests r b k
        other_spot r b k other =
            let run = ap (λ rs. get_or rs k r) steps.runs ∙ get_or-set_other runs place k steps.run r other in
            let had = ap (λ bs. get_or bs k b) steps.each
            ∙ get_or-set_other rests.each.items place k steps.before b other in
            (λ i. record { run = run i; before = had i })

        was : (item : ItemContents) (r : ItemRun) (b : ItemCounts)
            → seen_run (get_or runs place r) (get_or rests.each.items place b)
            (owed_at rests.schedule place) ≡ seen_run (get_or olds place r)
            (get_or before.each.items place b) (owed_at before.schedule place)
        was item r b =
            let owed = still_owed ItemSpot (ItemTook table items item olds before r b) start
            (spots olds before r b) rests.schedule (spots runs rests r b) at place far.along
            (far.under_way item r b) first in
            let begun_owed : owed_at start place ≡ owed_at before.schedule place =
            (λ i. frames_since (begun.clock i) (slice_index_or (begun.since i) place None)) in
            (λ i. spot_seen (there_still item r b i).spot (owed i)) ∙ (λ i. seen_run
            (get_or olds place r) (get_or before.each.items place b) (begun_owed i))

        done : (item : ItemContents) (r : ItemRun) (b : ItemCounts)
            → ItemTook table items item olds before r b place
            (record {
              spot = spots news after r b place;
              since = if steps.rests then Some (next_count before.schedule.clock) else None;
              due = not steps.rests;
            })
        done item r b =
            subst (λ (s : ItemSpot). ItemTook table items item olds before r b place
            (record {
              spot = s;
              since = if steps.rests then Some (next_count before.schedule.clock) else None;
              due = not steps.rests;
            })) (new_spot r b)
            (item_done table frame (get_or items place item) (next_count before.schedule.clock)
            (seen_run (get_or olds place r) (get_or before.each.items place b)
            (owed_at before.schedule place))
            (record { run = steps.run; before = steps.before }) steps.rests (steps.is item) (steps.room item)
            (subst (λ k. StepsRest table (get_or items place item) k steps.rests steps.before
            steps.run) (was item r b) (steps.steps item r b)))

        abbrev shown : List ℕ
        shown = take rests.count rests.stepped.items

        listed_now : take after.count after.stepped.items ≡ shown ++ (if steps.tells then place ∷ [] else [])
        listed_now =
            (λ i. take (steps.count i) (steps.stepped i))
            ∙ listed rests.stepped.items rests.count place steps.tells
            (omega (arith, far.room, far.count, first.after, here))

        due_now : due_below start.readers.due (place + 1) ≡ due_below start.readers.due at ++ place ∷ []
        due_now =
            due_more start.readers.due place (sym (same_due place first.after) ∙ first.here)
            ∙ ap (λ xs. xs ++ place ∷ [])
            (due_between start.readers.due at place first.after
            (λ k late early. sym (same_due k late) ∙ first.none_before k late early))

        pub far_on : Far news after (place + 1)
        far_on = record {
          runs_too = subst (λ (rs : List ItemRun). AreItemRuns table.nodes items rs) (sym
              steps.runs) (runs_set table.nodes items runs place steps.run far.runs_too steps.is);
          each_many = ap length steps.each ∙ length-set rests.each.items place steps.before ∙ far.each_many;
          room = ap length steps.stepped ∙ length-set rests.stepped.items rests.count place ∙ far.room;
          within = omega (arith, here);
          count = subst (λ n. n ≤ place + 1) (sym steps.count)
              (few_listed rests.count at place steps.tells far.count first.after);
          below = subst (AreBelow (place + 1)) (sym listed_now)
              (below_both (place + 1) shown (if steps.tells then place ∷ [] else [])
              (below_further at (place + 1) shown (omega (arith, first.after)) far.below)
              (one_below (place + 1) place steps.tells (omega arith)));
          told =
              (λ i. events_of items (steps.runs i) (listed_now i))
              ∙ listed_events items runs place steps.run shown (due_below start.readers.due at) steps.tells
              (below_further at place shown first.after far.below)
              (below_further at place (due_below start.readers.due at) first.after
              (due_is_below start.readers.due at)) far.told
              (λ no. events_here items runs place steps.run an_item here (omega (arith, here, runs_many))
              ∙ steps.silent no an_item)
              ∙ (λ i. events_of items (sym steps.runs i) (sym due_now i));
          along = along_on start rests.schedule after.schedule place steps.rests far.along first.within
              steps.known steps.schedule;
          under_way = λ item r b.
              under_way_on ItemSpot (ItemTook table items item olds before r b) start
              (spots olds before r b) rests.schedule (spots runs rests r b) at place far.along
              (far.under_way item r b) first
              after.schedule (spots news after r b) steps.rests (next_count before.schedule.clock)
              (omega (arith, here, since_many)) steps.schedule
              (ap next_count (far.along.clock ∙ begun.clock)) (other_spot r b) (done item r b);
        }

    -- at the end
    module _ (changed : AreChanged table values)
        (none : NoneSet rests.schedule.readers.due at (length rests.schedule.readers.due)) where
      known : (k : ℕ) → k < length items → (item : ItemContents) (r : ItemRun) (b : ItemCounts)
          → ItemTook table items item olds before r b k
          (place_of ItemSpot rests.schedule (spots runs rests r b) k)
      known k within item r b =
          took_frame table values changed (length items) before.schedule start were.heard begun
          ItemSpot KeptItem spot_seen (λ k. SpotSteps table (get_or items k item))
          (λ k. SpotOn table (get_or items k item)) (spots olds before r b)
          _ were.at_rest
          (λ k within was quiet n. (
            skipped table values (get_or items k item) (get_or before.each.items k b)
                (get_or olds k r) (was item b r) before.schedule.truths.comparisons
                before.schedule.readers k (were.told_of k within item) quiet n,
            were.rooms k within item b,
          ))
          (λ k within was quiet. still_on table values (get_or items k item) (get_or
          before.each.items k b) (get_or olds k r) (was item b r) before.schedule.truths.comparisons
          before.schedule.readers k (were.told_of k within item) quiet frame)
          rests.schedule (spots runs rests r b) at far.along (far.under_way item r b) none k within

      a_run : (k : ℕ) → k < length items → ItemRun
      a_run k within = element runs k (omega (arith, within, runs_many))

      a_before : (k : ℕ) → k < length items → ItemCounts
      a_before k within = element rests.each.items k (omega (arith, within, far.each_many))

      abbrev pub items_after : Rests
      items_after =
          record {
            each = rests.each;
            schedule = record rests.schedule { clock = next_count rests.schedule.clock };
            stepped = rests.stepped;
            count = rests.count;
            rooms = rests.rooms;
          }

      next_is : next_count before.schedule.clock ≡ next_count rests.schedule.clock
      next_is = sym (ap next_count (far.along.clock ∙ begun.clock))

      rests_after : AreRests table.nodes table.values items runs items_after
      rests_after = record {
        many = far.each_many;
        heard = heard_after table values before.schedule start items_after.schedule were.heard begun far.along.truths;
        room = far.room;
        few = omega (arith, far.count, far.within);
        told_of = λ k within item.
            told_by_rows (λ (now later : Instant). ItemSeesSame now later (get_or items k item))
            table.nodes before.schedule items_after.schedule k (far.along.rows
            ∙ begun.woken.rows)
            (ap (λ (t : TruthsSeen). t.comparisons) far.along.truths ∙ begun.comparisons)
            (were.told_of k within item);
        rooms = λ k within item b. (known k within item (a_run k within) b).steps.1;
        at_rest = record {
          due_many = due_many;
          since_many = since_many;
          early = λ k within.
              subst (λ n. IfSome (slice_index_or rests.schedule.since k None) (λ since. since ≤ n))
              next_is (known k within (element items k within) (a_run k within)
              (a_before k within)).early;
          rests = λ k within quiet. (known k within (element items k within) (a_run k within)
              (a_before k within)).rests quiet;
          known = λ k within quiet. far.along.awake k quiet;
          on = λ k within quiet item b run. (known k within item run b).on quiet;
        };
      }

      olds_many : length olds ≡ length items
      olds_many = length_runs table.nodes items olds were_runs

      seen_after : AreSteppedSeen table items (seen_by olds before) (seen_by runs items_after) runs
      seen_after =
          all_steps ItemContents KeptItem ItemRun (StepsTold table) items (seen_by olds before)
          (seen_by runs items_after) runs
          (seen_many ItemRun ItemCounts KeptItem seen_run
          (owed_at before.schedule) olds before.each.items (were.many ∙ sym olds_many) ∙ olds_many)
          (seen_many ItemRun ItemCounts KeptItem seen_run (owed_at items_after.schedule) runs
          rests.each.items (far.each_many ∙ sym runs_many) ∙ runs_many) runs_many
          (λ k within item old new said.
          let b = a_before k within in
          let at_old = seen_at ItemRun ItemCounts KeptItem seen_run
          (owed_at before.schedule) k olds before.each.items said b old
          (omega (arith, within, olds_many)) (were.many ∙ sym olds_many) in
          let at_new = seen_at ItemRun ItemCounts KeptItem seen_run
          (owed_at items_after.schedule) k runs rests.each.items said b new
          (omega (arith, within, runs_many)) (far.each_many ∙ sym runs_many) in
          let later : spot_seen (spots runs rests said b k) (frames_since (next_count
          before.schedule.clock) (since_at rests.schedule k)) ≡ spot_seen (spots runs rests said b
          k) (owed_at items_after.schedule k) = ap (λ c. spot_seen (spots runs rests said b k)
          (frames_since c (since_at rests.schedule k))) next_is in
          transport (λ i. StepsTold table (get_or items k item) (sym at_old i)
          ((later ∙ sym at_new) i) (get_or runs k said)) (known k within item said b).steps.0)

      -- an item that was not due tells nothing
      silent : (k : ℕ) → k < length items → is_due start k ≡ false → (item : ItemContents)
          (r : ItemRun) → run_events (get_or items k item) (get_or runs k r) ≡ []
      silent k within quiet item r =
          let b = a_before k within in
          let still = ap (λ (p : Place ItemSpot). p.due) ((far.under_way item r b).same k (inr quiet)) in
          ((known k within item r b).on (still ∙ quiet)).told

      last : NoneSet start.readers.due at (length items)
      last k late within =
          let same = ap (λ (p : Place ItemSpot). p.due) ((far.under_way (element items k within)
          (a_run k within) (a_before k within)).same k (inl late)) in
          sym same ∙ none k late (omega (arith, within, due_many))

      told_after : AreTold items runs items_after
      told_after =
          sym (λ i. all_events (take_all (length items) items (omega arith) i)
          (take_all (length items) runs (omega (arith, runs_many)) i))
          ∙ all_told table items runs start.readers.due runs_many silent (length items) (omega arith)
          ∙ ap (events_of items runs) (due_between start.readers.due at (length items) far.within last)
          ∙ sym far.told

      pub items_stepped : StepsItems table items olds runs before items_after
      items_stepped = record { runs = far.runs_too; rests = rests_after; stepped = seen_after; told = told_after }
