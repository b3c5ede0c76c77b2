-- All items of a set, of which those that rest are not stepped: docs/INTERNALS.md, "Items at rest".
use Rattle.std.specs.Prelude.{◌≡◌, ℕ, zero, suc, ◌<◌, ◌≤◌, Bool, true, false, if◌then◌else◌, Option, Some, List, []}
use Rattle.std.specs.Prelude.{◌∷◌, ◌++◌, length, take, get_or, set, ◌+◌, slice_get, slice_index_or, slice_set}
use Rattle.std.specs.List.{flat_map}
use Rattle.ra_indirect.specs.declared.node.Node.{Node}
use Rattle.ra_memref.specs.Table.{TableSeen}
use Rattle.ra_schedule.specs.Schedules.{AllSteps, AreAtRest, IsHeard, noted_at, owed_at, seen_all}
use Rattle.ra_schedule.specs.Signals.{SignalsSeen}
use Rattle.ra_schedule.specs.Waking.{AreChanged}
use Rattle.ra_set.specs.Contents.{ItemContents}
use Rattle.ra_progress.specs.Contents.{KeptItem}
use Rattle.ra_meaning.specs.declared.event.Event.{Event}
use Rattle.ra_items.specs.declared.item_run.ItemRun.{ItemRun}
use Rattle.ra_items.specs.declared.rest.ItemCounts.{ItemCounts}
use Rattle.ra_items.specs.declared.rests.Rests.{Rests}
use Rattle.ra_items.specs.AllRuns.{AreItemRuns, all_events}
use Rattle.ra_items.specs.ItemRuns.{IsItemRun}
use Rattle.ra_items.specs.Resting.{FitsRun, GoesOn, HasRoom, IsToldOf, StepsRest, StepsSeen, seen_run}
use Rattle.ra_items.specs.RunEvents.{run_events}
pub use Rattle.ra_schedule.specs.Waking.{IsSomeFrame, IsWoken}

-- the events of an item that may be missing
abbrev pub maybe_events : Option ItemContents → Option ItemRun → List Event
maybe_events (Some item) (Some run) = run_events item run
maybe_events _ _ = []

-- the events of the item at a place; none past the last one
abbrev pub events_at : List ItemContents → List ItemRun → ℕ → List Event
events_at items runs place = maybe_events (slice_get items place) (slice_get runs place)

-- the events of the items at these places
abbrev pub events_of : List ItemContents → List ItemRun → List ℕ → List Event
events_of items runs places = flat_map (events_at items runs) places

-- the reader at a place is told of all that the item at it sees
abbrev pub AreItemsTold : List Node → List ItemContents → SignalsSeen → ℕ → Type 0
AreItemsTold nodes items s k = (item : ItemContents) → IsToldOf nodes s.comparisons s.readers (get_or items k item) k

-- beside each item: it is told of what the item sees, and there is room for what the item keeps; where it is not due,
-- it goes on to rest by these values
pub record AreRests (nodes : List Node) (values : List ℕ) (items : List ItemContents)
    (runs : List ItemRun) (rests : Rests) : Type 0 where
  pub many : length rests.each.items ≡ length items
  pub heard : IsHeard nodes values rests.schedule
  pub room : length rests.stepped.items ≡ length items
  pub few : rests.count ≤ length items
  pub told_of : (k : ℕ) → k < length items → (item : ItemContents) → IsToldOf nodes
      rests.schedule.truths.comparisons rests.schedule.readers (get_or items k item) k
  pub rooms : (k : ℕ) → k < length items → (item : ItemContents) (b : ItemCounts)
      → HasRoom (get_or items k item) (get_or rests.each.items k b)
  pub at_rest : AreAtRest (λ k. (item : ItemContents) (b : ItemCounts) (run : ItemRun)
      → GoesOn nodes values (get_or items k item) (get_or rests.each.items k b) (get_or runs k run))
      (length items) rests.schedule

-- what the items are seen to keep
abbrev pub seen_by : List ItemRun → Rests → List KeptItem
seen_by runs rests = seen_all seen_run (owed_at rests.schedule) runs rests.each.items

-- the events of all items are those of the ones that are listed: those that were stepped and may tell something
abbrev pub AreTold : List ItemContents → List ItemRun → Rests → Type 0
AreTold items runs rests = all_events items runs ≡ events_of items runs (take rests.count rests.stepped.items)

-- one frame of an item, and the events that its run tells
abbrev pub StepsTold : TableSeen → ItemContents → (old new : KeptItem) → ItemRun → Type 0
StepsTold table item old new run = StepsSeen table item old new (run_events item run)

-- one frame of each item, from what it is seen to keep
abbrev pub AreSteppedSeen : TableSeen → List ItemContents → (olds news : List KeptItem) → List ItemRun → Type 0
AreSteppedSeen table items olds news runs = AllSteps (StepsTold table) items olds news runs

-- One frame of all items: each is one frame further and goes on to rest by the new values, and their events are those
-- of the items that are listed.
pub record StepsItems (table : TableSeen) (items : List ItemContents) (olds news : List ItemRun)
    (old new : Rests) : Type 0 where
  pub runs : AreItemRuns table.nodes items news
  pub rests : AreRests table.nodes table.values items news new
  pub stepped : AreSteppedSeen table items (seen_by olds old) (seen_by news new) news
  pub told : AreTold items news new

-- the rests before a frame: they were at rest by earlier values, and each node that has another one is listed
pub record WereRests (table : TableSeen) (items : List ItemContents) (runs : List ItemRun)
    (rests : Rests) : Type 0 where
  pub values : List ℕ
  pub are : AreRests table.nodes values items runs rests
  pub changed : AreChanged table values

-- the places below one that are due, in order
abbrev pub due_below : List Bool → ℕ → List ℕ
due_below due zero = []
due_below due (suc k) = due_below due k ++ (if slice_index_or due k true then k ∷ [] else [])

-- there is room beside the item at a place, and in the row of those that were stepped
pub record HasPlace (items : List ItemContents) (rests : Rests) (place : ℕ) : Type 0 where
  pub many : length rests.each.items ≡ length items
  pub due : length rests.schedule.readers.due ≡ length items
  pub room : length rests.stepped.items ≡ length items
  pub few : rests.count < length items
  pub rooms : (item : ItemContents) (b : ItemCounts)
      → HasRoom (get_or items place item) (get_or rests.each.items place b)

-- the item at a place is stepped, with what it owed, and listed where it may tell something; no other item changes
pub record IsSteppedAt (table : TableSeen) (items : List ItemContents) (place : ℕ)
    (olds news : List ItemRun) (old new : Rests) : Type 0 where
  pub run : ItemRun
  pub before : ItemCounts
  pub rests : Bool
  pub tells : Bool
  pub runs : news ≡ set olds place run
  pub each : new.each.items ≡ set old.each.items place before
  pub schedule : new.schedule ≡ noted_at place rests old.schedule
  pub known : rests ≡ true → old.schedule.truths.known ≡ true
  pub stepped : new.stepped.items ≡ slice_set old.stepped.items old.count place
  pub count : new.count ≡ old.count + (if tells then 1 else 0)
  pub silent : tells ≡ false → (item : ItemContents) → run_events (get_or items place item) run ≡ []
  pub is : (item : ItemContents) → IsItemRun table.nodes (get_or items place item) run
  pub room : (item : ItemContents) → HasRoom (get_or items place item) before
  pub steps : (item : ItemContents) (r : ItemRun) (b : ItemCounts)
      → StepsRest table (get_or items place item) (seen_run (get_or olds place r)
      (get_or old.each.items place b) (owed_at old.schedule place)) rests before run

-- beside each run there is a bit for each of its hits
abbrev pub AreFitting : List ItemRun → List ItemCounts → Type 0
AreFitting [] [] = Unit {0}
AreFitting (run ∷ runs) (b ∷ befores) = FitsRun b run × AreFitting runs befores
AreFitting _ _ = ⊥

-- beside each item there is a bit for each of its conditions
abbrev pub HaveRooms : List ItemContents → List ItemCounts → Type 0
HaveRooms [] [] = Unit {0}
HaveRooms (item ∷ items) (c ∷ counts) = HasRoom item c × HaveRooms items counts
HaveRooms _ _ = ⊥
