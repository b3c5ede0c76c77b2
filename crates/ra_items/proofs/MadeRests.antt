-- New rests, and rests that are given up: each item is told of what it sees, and there is room for what it keeps.
use Rattle.std.proofs.Common.{◌≡◌, ℕ, zero, suc, ◌<◌, true, List, [], ◌∷◌, ◌++◌, length, map, get_or, refl, sym, ◌∙◌}
use Rattle.std.proofs.Common.{ap, subst, arith}
use Rattle.std.proofs.lemmas.List.{length-replicate}
use Rattle.ra_indirect.specs.declared.node.Node.{Node}
use Rattle.ra_schedule.specs.Inputs.{Instant}
use Rattle.ra_truths.specs.Truths.{TruthsSeen}
use Rattle.ra_schedule.specs.Readers.{ReadersSeen}
use Rattle.ra_schedule.specs.Signals.{AreSignals, SignalsSeen}
use Rattle.ra_set.specs.Contents.{ItemContents}
use Rattle.ra_progress.specs.Contents.{KeptItem}
use Rattle.ra_schedule.specs.Schedules.{ScheduleSeen, no_truths, nothing_owed, owed_at, seen_all}
use Rattle.ra_schedule.proofs.MembersRest.Woken.{told_by_rows}
use Rattle.ra_schedule.proofs.MembersRest.SeenAll.{heard_forgotten, heard_new, nothing_at_rest, nothing_owed_at}
use Rattle.ra_schedule.proofs.MembersRest.SeenAll.{seen_awake}
use Rattle.ra_items.specs.declared.item_run.ItemRun.{ItemRun}
use Rattle.ra_items.specs.declared.rest.ItemCounts.{ItemCounts}
use Rattle.ra_items.specs.declared.rests.Rests.{Rests}
use Rattle.ra_items.specs.AllRuns.{AreItemRuns}
use Rattle.ra_items.specs.ItemRuns.{kept_run}
use Rattle.ra_items.specs.Resting.{HasRoom, ItemSeesSame, seen_run}
use Rattle.ra_items.specs.Rests.{AreItemsTold, AreRests, HaveRooms}

-- what stands beside an item is made for it
pub rooms_at : (k : ℕ) (items : List ItemContents) (counts : List ItemCounts) (item : ItemContents)
    (c : ItemCounts) → k < length items → HaveRooms items counts
    → HasRoom (get_or items k item) (get_or counts k c)
rooms_at k [] counts item c within have = absurd (omega (arith, within))
rooms_at k (i ∷ items) [] item c within have = absurd have
rooms_at zero (i ∷ items) (e ∷ counts) item c within have = have.0
rooms_at (suc k) (i ∷ items) (e ∷ counts) item c within have =
    rooms_at k items counts item c (omega (arith, within)) have.1

pub rooms_many : (items : List ItemContents) (counts : List ItemCounts) → HaveRooms items counts
    → length counts ≡ length items
rooms_many [] [] have = refl
rooms_many [] (c ∷ counts) have = absurd have
rooms_many (item ∷ items) [] have = absurd have
rooms_many (item ∷ items) (c ∷ counts) have = ap suc (rooms_many items counts have.1)

pub rooms_more : (items : List ItemContents) (counts : List ItemCounts) (item : ItemContents)
    (c : ItemCounts) → HaveRooms items counts → HasRoom item c
    → HaveRooms (items ++ item ∷ []) (counts ++ c ∷ [])
rooms_more [] [] item c have one = (one, tt)
rooms_more [] (e ∷ counts) item c have one = absurd have
rooms_more (i ∷ items) [] item c have one = absurd have
rooms_more (i ∷ items) (e ∷ counts) item c have one = (have.0, rooms_more items counts item c have.1 one)

-- what each item of a schedule of which nothing is owed is seen to keep
pub awake_kept : (runs : List ItemRun) (each : List ItemCounts) (schedule : ScheduleSeen)
    (readers : ReadersSeen) (truths : TruthsSeen) (clock : ℕ) → schedule
    ≡ nothing_owed readers truths clock → length each ≡ length runs
    → seen_all seen_run (owed_at schedule) runs each ≡ map kept_run runs
awake_kept runs each schedule readers truths clock is many =
    seen_awake ItemRun ItemCounts KeptItem seen_run kept_run (λ run b. refl) (owed_at schedule)
    (λ k. ap (λ (s : ScheduleSeen). owed_at s k) is
    ∙ nothing_owed_at readers truths clock k) runs each many

-- rests that are made, by who reads what and what each item keeps
pub all_made : (nodes : List Node) (values : List ℕ) (items : List ItemContents)
    (runs : List ItemRun) (signals : SignalsSeen) (rests : Rests) → AreItemRuns nodes items runs
    → AreSignals nodes (AreItemsTold nodes items) (length items) signals (length items)
    → rests.schedule ≡ nothing_owed signals.readers (no_truths signals.nodes signals.comparisons) 0
    → HaveRooms items rests.each.items → length rests.stepped.items ≡ length items → rests.count ≡ 0
    → AreRests nodes values items runs rests
all_made nodes values items runs signals rests are made is fit room none = record {
  many = rooms_many items rests.each.items fit;
  heard = heard_new nodes values (AreItemsTold nodes items) (length items)
      (length items) signals rests.schedule made is;
  room = room;
  few = omega (arith, none);
  told_of = λ k within item.
      told_by_rows (λ (now later : Instant). ItemSeesSame now later (get_or items k item)) nodes
      (record {
        readers = signals.readers;
        truths = no_truths signals.nodes signals.comparisons;
        since = [];
        clock = 0;
      }) rests.schedule k
      (ap (λ (s : ScheduleSeen). s.readers.rows) is)
      (ap (λ (s : ScheduleSeen). s.truths.comparisons) is) (made.told k within item);
  rooms = λ k within item c. rooms_at k items rests.each.items item c within fit;
  at_rest = nothing_at_rest _ (length items) signals.readers
      (no_truths signals.nodes signals.comparisons) 0 rests.schedule is (ap length made.due
      ∙ length-replicate (length items) true);
}

-- rests of which none rests are those of any runs of their items
pub forgotten_rests : (nodes : List Node) (values : List ℕ) (items : List ItemContents)
    (before runs : List ItemRun) (old new : Rests) → AreRests nodes values items before old
    → new.each.items ≡ old.each.items → new.schedule
    ≡ nothing_owed old.schedule.readers old.schedule.truths old.schedule.clock
    → new.stepped ≡ old.stepped → new.count ≡ old.count → AreRests nodes values items runs new
forgotten_rests nodes values items before runs old new are each is stepped count = record {
  many = ap length each ∙ are.many;
  heard = heard_forgotten nodes values old.schedule new.schedule are.heard is;
  room = ap (λ xs. length xs.items) stepped ∙ are.room;
  few = omega (arith, are.few, count);
  told_of = λ k within item.
      told_by_rows (λ (now later : Instant). ItemSeesSame now later (get_or items k item)) nodes
      old.schedule new.schedule k
      (ap (λ (s : ScheduleSeen). s.readers.rows) is)
      (ap (λ (s : ScheduleSeen). s.truths.comparisons) is) (are.told_of k within item);
  rooms = λ k within item b. subst (λ (bs : List ItemCounts). HasRoom (get_or items k item)
      (get_or bs k b)) (sym each) (are.rooms k within item b);
  at_rest = nothing_at_rest _ (length items) old.schedule.readers
      old.schedule.truths old.schedule.clock new.schedule is are.at_rest.due_many;
}
