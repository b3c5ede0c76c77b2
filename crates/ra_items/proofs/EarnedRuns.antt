-- Items that are earned too: each is still an item with its plans, goes on to rest, and tells what it told.
use Rattle.std.proofs.Common.{◌≡◌, ℕ, zero, suc, ◌+◌, ◌<◌, ◌≤◌, ◌||◌, Bool, true, false, Option, None, Some, List, []}
use Rattle.std.proofs.Common.{◌∷◌, ◌++◌, length, map, take, drop, get_or, set, refl, sym, ◌∙◌, ap, ap₂, arith, add-one}
use Rattle.std.proofs.Common.{append_assoc}
use Rattle.std.proofs.Math.Bool.{or-true, or-false}
use Rattle.std.proofs.Math.Seq.{drop-cons}
use Rattle.std.proofs.lemmas.List.{take_more_set}
use Rattle.ra_indirect.specs.declared.node.Node.{Node}
use Rattle.ra_trigger.specs.States.{is_triggered}
use Rattle.ra_trigger.specs.Steps.{TriggerKept}
use Rattle.ra_set.specs.Contents.{ItemContents, Unlocks, Ranks}
use Rattle.ra_schedule.specs.Schedules.{owed_at, seen_all}
use Rattle.ra_schedule.specs.Counted.{owed_by}
use Rattle.ra_meaning.specs.Earned.{Earned, is_earned, item_with, items_with, both_earned}
use Rattle.ra_meaning.specs.Openings.{kept_achievement}
use Rattle.ra_items.specs.declared.item_run.ItemRun.{ItemRun}
use Rattle.ra_items.specs.declared.item_run.ItemRun.TheVariants.{Achievement, Leaderboard}
use Rattle.ra_items.specs.declared.rest.ItemCounts.{ItemCounts}
use Rattle.ra_items.specs.declared.rest.ItemCounts.TheVariants as counts
use Rattle.ra_items.specs.declared.rests.Rests.{Rests}
use Rattle.ra_items.specs.AllRuns.{AreItemRuns, all_events}
use Rattle.ra_items.specs.Earning.{earned_run, earned_runs}
use Rattle.ra_items.specs.ItemRuns.{IsItemRun}
use Rattle.ra_items.specs.Resting.{GoesOn, HasRoom, seen_run}
use Rattle.ra_items.specs.Rests.{AreRests, AreTold, events_at, events_of, seen_by}
use Rattle.ra_items.specs.RunEvents.{run_events}
use Rattle.ra_items.proofs.RestoredRuns.{rest_at}
use Rattle.ra_items.proofs.RunsLemmas.{length_runs, run_at}

-- of no items none is earned too
pub earned_none : (earned : Earned) → earned_runs earned [] ≡ []
earned_none [] = refl
earned_none (e ∷ earned) = refl

-- one item more, after those before it
pub earned_next : (earned : Earned) (k : ℕ) (olds runs : List ItemRun) (d : ItemRun)
    → k < length olds → k < length runs → k < length earned → drop k runs ≡ drop k olds
    → (new : ItemRun) (e : Bool) → e ≡ get_or earned k false → new ≡ earned_run e (get_or runs k d)
    → take (k + 1) (set runs k new) ++ earned_runs (drop (k + 1) earned) (drop (k + 1) olds)
    ≡ take k runs ++ earned_runs (drop k earned) (drop k olds)
earned_next earned k olds runs d within within_runs placed rest new e said is =
    let later = earned_runs (drop (k + 1) earned) (drop (k + 1) olds) in
    let olds_next : drop k olds ≡ get_or runs k d ∷ drop (k + 1) olds =
    drop-cons olds k d within ∙ ap₂ (λ x n. x ∷ drop n olds) (sym (rest_at runs olds k d rest)) (sym (add-one k)) in
    let earned_too : drop k earned ≡ e ∷ drop (k + 1) earned =
    drop-cons earned k false placed ∙ ap₂ (λ x n. x ∷ drop n earned) (sym said) (sym (add-one k)) in
    ap (λ xs. xs ++ later) (take_more_set runs k new within_runs)
    ∙ append_assoc (take k runs) (new ∷ []) later
    ∙ ap (λ x. take k runs ++ (x ∷ later)) is
    ∙ sym (ap₂ (λ es rs. take k runs ++ earned_runs es rs) earned_too olds_next)

-- items one by one
module _ (nodes : List Node) where
  earned_is : (item : ItemContents) (e : Bool) (run : ItemRun) → IsItemRun nodes item run
      → IsItemRun nodes item (earned_run e run)
  earned_is (Unlocks id t) e (Achievement run) is = is
  earned_is (Unlocks id t) e (Leaderboard run) is = absurd is
  earned_is (Ranks id format b) e (Achievement run) is = absurd is
  earned_is (Ranks id format b) e (Leaderboard run) is = is

  pub earned_are : (items : List ItemContents) (earned : Earned) (runs : List ItemRun)
      → AreItemRuns nodes items runs → AreItemRuns nodes items (earned_runs earned runs)
  earned_are items [] runs are = are
  earned_are [] (e ∷ earned) [] are = are
  earned_are [] (e ∷ earned) (run ∷ runs) are = absurd are
  earned_are (item ∷ items) (e ∷ earned) [] are = absurd are
  earned_are (item ∷ items) (e ∷ earned) (run ∷ runs) are =
      (earned_is item e run are.0, earned_are items earned runs are.1)

-- what is kept of an achievement that is earned too
kept_too : (was e : Bool) (k : TriggerKept) → kept_achievement (was || e) k
    ≡ item_with (is_earned (kept_achievement was k) || e) (kept_achievement was k)
kept_too true e k = refl
kept_too false true k =
    ap (λ x. item_with x (kept_achievement false k)) (sym (or-true (is_triggered k.state)))
kept_too false false k =
    ap (λ x. item_with x (kept_achievement false k)) (sym (or-false (is_triggered k.state)))

-- what is seen of an item that is earned too is what was seen of it, earned where it was or where this says so
seen_too : (e : Bool) (run : ItemRun) (b : ItemCounts) (owed : Option ℕ) → seen_run (earned_run e
    run) b owed ≡ item_with (is_earned (seen_run run b owed) || e) (seen_run run b owed)
seen_too e (Achievement run) b None = kept_too run.earned e run.run.trigger
seen_too e (Achievement run) (counts.Achievement b) (Some n) = kept_too run.earned e
    (record run.run.trigger { hits = owed_by n b.counted run.run.trigger.hits })
seen_too e (Achievement run) (counts.Leaderboard b) (Some n) = kept_too run.earned e run.run.trigger
seen_too e (Leaderboard run) b None = refl
seen_too e (Leaderboard run) (counts.Achievement b) (Some n) = refl
seen_too e (Leaderboard run) (counts.Leaderboard b) (Some n) = refl

all_seen_too : (owed : ℕ → Option ℕ) (earned : Earned) (runs : List ItemRun)
    (befores : List ItemCounts) → length runs ≤ length earned
    → seen_all seen_run owed (earned_runs earned runs) befores ≡ items_with (both_earned (map
    is_earned (seen_all seen_run owed runs befores)) earned) (seen_all seen_run owed runs befores)
all_seen_too owed [] [] befores many = refl
all_seen_too owed [] (run ∷ runs) befores many = absurd (omega (arith, many))
all_seen_too owed (e ∷ earned) [] befores many = refl
all_seen_too owed (e ∷ earned) (run ∷ runs) [] many = refl
all_seen_too owed (e ∷ earned) (run ∷ runs) (b ∷ befores) many =
    ap₂ (λ x xs. x ∷ xs) (seen_too e run b (owed 0))
    (all_seen_too (λ k. owed (suc k)) earned runs befores (omega (arith, many)))

pub earned_seen : (earned : Earned) (runs : List ItemRun) (rests : Rests) → length runs ≤ length earned
    → seen_by (earned_runs earned runs) rests
    ≡ items_with (both_earned (map is_earned (seen_by runs rests)) earned) (seen_by runs rests)
earned_seen earned runs rests many = all_seen_too (owed_at rests.schedule) earned runs rests.each.items many

-- the events of the last frame stay
events_too : (item : ItemContents) (e : Bool) (run : ItemRun) → run_events item (earned_run e run) ≡ run_events item run
events_too (Unlocks id t) e (Achievement run) = refl
events_too (Unlocks id t) e (Leaderboard run) = refl
events_too (Ranks id format b) e (Achievement run) = refl
events_too (Ranks id format b) e (Leaderboard run) = refl

pub earned_events : (items : List ItemContents) (earned : Earned) (runs : List ItemRun)
    → all_events items (earned_runs earned runs) ≡ all_events items runs
earned_events items [] runs = refl
earned_events [] (e ∷ earned) [] = refl
earned_events [] (e ∷ earned) (run ∷ runs) = refl
earned_events (item ∷ items) (e ∷ earned) [] = refl
earned_events (item ∷ items) (e ∷ earned) (run ∷ runs) =
    ap₂ (λ x xs. x ++ xs) (events_too item e run) (earned_events items earned runs)

at_too : (items : List ItemContents) (earned : Earned) (runs : List ItemRun) (place : ℕ)
    → events_at items (earned_runs earned runs) place ≡ events_at items runs place
at_too items [] runs place = refl
at_too items (e ∷ earned) [] place = refl
at_too [] (e ∷ earned) (run ∷ runs) place = refl
at_too (item ∷ items) (e ∷ earned) (run ∷ runs) zero = events_too item e run
at_too (item ∷ items) (e ∷ earned) (run ∷ runs) (suc place) = at_too items earned runs place

of_too : (items : List ItemContents) (earned : Earned) (runs : List ItemRun) (places : List ℕ)
    → events_of items (earned_runs earned runs) places ≡ events_of items runs places
of_too items earned runs [] = refl
of_too items earned runs (place ∷ places) =
    ap₂ (λ x xs. x ++ xs) (at_too items earned runs place) (of_too items earned runs places)

pub earned_told : (items : List ItemContents) (earned : Earned) (runs : List ItemRun)
    (rests : Rests) → AreTold items runs rests → AreTold items (earned_runs earned runs) rests
earned_told items earned runs rests told =
    earned_events items earned runs ∙ told ∙ sym (of_too items earned runs (take rests.count rests.stepped.items))

-- what an achievement keeps at a frame more it keeps too where it is earned
on_too : (was e : Bool) (now then later : TriggerKept)
    → kept_achievement (is_earned (kept_achievement was now)) later ≡ kept_achievement was then
    → kept_achievement (is_earned (kept_achievement (was || e) now)) later ≡ kept_achievement (was || e) then
on_too true e now then later is = ap (item_with true) is
on_too false true now then later is = ap (item_with true) is
on_too false false now then later is = is

module _ (nodes : List Node) (values : List ℕ) where
  goes_on_too : (item : ItemContents) (b : ItemCounts) (e : Bool) (run : ItemRun)
      → IsItemRun nodes item run → HasRoom item b → GoesOn nodes values item b run
      → GoesOn nodes values item b (earned_run e run)
  goes_on_too (Unlocks id t) (counts.Achievement b) e (Achievement run) is room on = record {
    now = on.now;
    at = on.at;
    kept = λ start image same n. on_too run.earned e
        (record run.run.trigger { hits = owed_by n b.counted run.run.trigger.hits })
        (record run.run.trigger { hits = owed_by (n + 1) b.counted run.run.trigger.hits }) _
        (on.kept start image same n);
    silent = λ start image same n. on.silent start image same n;
    told = on.told;
  }
  goes_on_too (Unlocks id t) (counts.Leaderboard b) e (Achievement run) is room on = absurd room
  goes_on_too (Unlocks id t) b e (Leaderboard run) is room on = absurd is
  goes_on_too (Ranks id format board) b e (Achievement run) is room on = absurd is
  goes_on_too (Ranks id format board) b e (Leaderboard run) is room on = on

  -- the item at a place, whether there is an answer for it or not
  on_at : (item : ItemContents) (b : ItemCounts) (earned : Earned) (runs : List ItemRun) (k : ℕ)
      (run : ItemRun) → k < length runs → IsItemRun nodes item (get_or runs k run) → HasRoom item b
      → GoesOn nodes values item b (get_or runs k run)
      → GoesOn nodes values item b (get_or (earned_runs earned runs) k run)
  on_at item b [] runs k run within is room on = on
  on_at item b (e ∷ earned) [] k run within is room on = absurd (omega (arith, within))
  on_at item b (e ∷ earned) (own ∷ runs) zero run within is room on = goes_on_too item b e own is room on
  on_at item b (e ∷ earned) (own ∷ runs) (suc k) run within is room on =
      on_at item b earned runs k run (omega (arith, within)) is room on

  pub earned_rests : (items : List ItemContents) (earned : Earned) (runs : List ItemRun)
      (rests : Rests) → AreItemRuns nodes items runs → AreRests nodes values items runs rests
      → AreRests nodes values items (earned_runs earned runs) rests
  earned_rests items earned runs rests are they = record {
    many = they.many;
    heard = they.heard;
    room = they.room;
    few = they.few;
    told_of = they.told_of;
    rooms = they.rooms;
    at_rest = record {
      due_many = they.at_rest.due_many;
      since_many = they.at_rest.since_many;
      early = they.at_rest.early;
      rests = they.at_rest.rests;
      known = they.at_rest.known;
      on = λ k within free item b run.
          on_at (get_or items k item) (get_or rests.each.items k b) earned runs k run
          (omega (arith, within, length_runs nodes items runs are))
          (run_at nodes items runs are k item run within) (they.rooms k within item b)
          (they.at_rest.on k within free item b run);
    };
  }
