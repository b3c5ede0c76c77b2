-- What items are seen to keep, by what they keep and owe.
use Rattle.std.proofs.Common.{◌≡◌, ℕ, zero, suc, ◌<◌, Option, None, Some, List, [], ◌∷◌, length, map, zip, get_or}
use Rattle.std.proofs.Common.{option_map, slice_get, refl, sym, ◌∙◌, ap, ap₂, arith}
use Rattle.ra_indirect.specs.declared.node.Node.{Node}
use Rattle.ra_set.specs.Contents.{ItemContents, Unlocks, Ranks}
use Rattle.ra_trigger.specs.Steps.{TriggerKept}
use Rattle.ra_member.proofs.Shaped.{member_shape}
use Rattle.ra_condition.specs.Contents.{groups_of}
use Rattle.ra_group.specs.declared.form.Form.TheVariants.{InTrigger}
use Rattle.ra_member.specs.MemberRuns.{kept_by}
use Rattle.ra_schedule.specs.Counted.{owed_by, owed_member_by}
use Rattle.ra_schedule.specs.Counts.{counts_of}
use Rattle.ra_schedule.proofs.MembersRest.Counted.{owed_by_fits, owed_by_numbers}
use Rattle.ra_schedule.proofs.MembersRest.For.{counts_fit, length-free}
use Rattle.ra_items.specs.declared.item_run.ItemRun.{ItemRun}
use Rattle.ra_items.specs.declared.item_run.ItemRun.TheVariants.{Achievement, Leaderboard}
use Rattle.ra_items.specs.declared.item_state.ItemState.TheVariants as states
use Rattle.ra_items.specs.declared.rest.ItemCounts.{ItemCounts}
use Rattle.ra_items.specs.declared.rest.ItemCounts.TheVariants as counts
use Rattle.ra_progress.specs.Contents.{KeptItem}
use Rattle.ra_schedule.specs.Schedules.{owed_at, seen_all}
use Rattle.ra_schedule.proofs.MembersRest.SeenAll.{seen_many}
use Rattle.ra_items.specs.declared.rests.Rests.{Rests}
use Rattle.ra_items.specs.AllRuns.{AreItemRuns}
use Rattle.ra_meaning.specs.Boards.{BoardKept, tracked_number}
use Rattle.ra_items.specs.BoardRuns.{board_kept}
use Rattle.ra_meaning.specs.Earned.{is_earned}
use Rattle.ra_items.specs.ItemRuns.{IsItemRun, kept_run}
use Rattle.ra_items.specs.ItemStates.{item_state, run_state}
use Rattle.ra_meaning.specs.Order.{board_member}
use Rattle.ra_items.specs.Resting.{FitsRun, HasRoom, seen_run}
use Rattle.ra_items.specs.Rests.{AreFitting, AreRests, seen_by}
use Rattle.ra_meaning.proofs.Openings.Again.{achievement_again, board_again}
use Rattle.ra_meaning.proofs.Earned.Frames.{AreSeen, IsSeen}
use Rattle.ra_items.proofs.ItemsRest.{tracked_by}

-- as much is seen as there are runs
pub seen_long : (runs : List ItemRun) (rests : Rests) → length rests.each.items ≡ length runs
    → length (seen_by runs rests) ≡ length runs
seen_long runs rests many = seen_many ItemRun ItemCounts KeptItem seen_run
    (owed_at rests.schedule) runs rests.each.items many

-- there is a bit for each hit that a run keeps
pub one_shape : (nodes : List Node) (item : ItemContents) (b : ItemCounts) (run : ItemRun)
    → IsItemRun nodes item run → HasRoom item b → FitsRun b run
one_shape nodes (Unlocks id t) (counts.Achievement b) (Achievement run) is room =
    room.many ∙ length-free InTrigger (groups_of t) ∙ sym is.hits
one_shape nodes (Unlocks id t) (counts.Leaderboard b) run is room = absurd room
one_shape nodes (Unlocks id t) (counts.Achievement b) (Leaderboard run) is room = absurd is
one_shape nodes (Ranks id format b) (counts.Achievement room_of) run is room = absurd room
one_shape nodes (Ranks id format b) (counts.Leaderboard room_of) (Achievement run) is room = absurd is
one_shape nodes (Ranks id format b) (counts.Leaderboard room_of) (Leaderboard run) is room =
    counts_fit (board_member b) room_of.value room (kept_by run.member)
    (member_shape nodes (board_member b) run.member is)

-- there is a bit for each hit of the run at a place
pub fitting_at : (k : ℕ) (runs : List ItemRun) (befores : List ItemCounts) (run : ItemRun)
    (b : ItemCounts) → k < length runs → AreFitting runs befores
    → FitsRun (get_or befores k b) (get_or runs k run)
fitting_at k [] befores run b within fit = absurd (omega (arith, within))
fitting_at k (r ∷ runs) [] run b within fit = absurd fit
fitting_at zero (r ∷ runs) (e ∷ befores) run b within fit = fit.0
fitting_at (suc k) (r ∷ runs) (e ∷ befores) run b within fit =
    fitting_at k runs befores run b (omega (arith, within)) fit.1

module _ (nodes : List Node) where
  seen_one : (item : ItemContents) (run : ItemRun) (b : ItemCounts) (owed : Option ℕ)
      → IsItemRun nodes item run → HasRoom item b → IsSeen item (seen_run run b owed)
  seen_one (Unlocks id t) (Achievement run) b None is room =
      record { earned = run.earned; trigger = run.run.trigger; is = refl }
  seen_one (Unlocks id t) (Achievement run) (counts.Achievement b) (Some n) is room =
      record {
        earned = run.earned;
        trigger = record run.run.trigger { hits = owed_by n b.counted run.run.trigger.hits };
        is = refl;
      }
  seen_one (Unlocks id t) (Achievement run) (counts.Leaderboard b) (Some n) is room = absurd room
  seen_one (Unlocks id t) (Leaderboard run) b owed is room = absurd is
  seen_one (Ranks id format b) (Achievement run) room_of owed is room = absurd is
  seen_one (Ranks id format b) (Leaderboard run) room_of None is room = refl
  seen_one (Ranks id format b) (Leaderboard run) (counts.Leaderboard room_of) (Some n) is room = refl
  seen_one (Ranks id format b) (Leaderboard run) (counts.Achievement room_of) (Some n) is room = absurd room

  -- what is owed earns nothing
  earned_one : (item : ItemContents) (run : ItemRun) (b : ItemCounts) (owed : Option ℕ) → IsItemRun
      nodes item run → HasRoom item b → is_earned (seen_run run b owed) ≡ is_earned (kept_run run)
  earned_one item run b None is room = refl
  earned_one (Unlocks id t) (Achievement run) (counts.Achievement b) (Some n) is room = refl
  earned_one (Unlocks id t) (Achievement run) (counts.Leaderboard b) (Some n) is room = absurd room
  earned_one (Unlocks id t) (Leaderboard run) b (Some n) is room = absurd is
  earned_one (Ranks id format b) (Achievement run) room_of (Some n) is room = absurd is
  earned_one (Ranks id format b) (Leaderboard run) (counts.Leaderboard room_of) (Some n) is room = refl
  earned_one (Ranks id format b) (Leaderboard run) (counts.Achievement room_of) (Some n) is room = absurd room

  -- and an item stands where it stood
  stands_one : (item : ItemContents) (run : ItemRun) (b : ItemCounts) (owed : Option ℕ) → IsItemRun
      nodes item run → HasRoom item b → run_state run ≡ item_state (item, seen_run run b owed)
  stands_one (Unlocks id t) (Achievement run) b None is room =
      ap (λ (k : TriggerKept). states.Achievement k.state k.measured)
      (sym (achievement_again run.earned run.run.trigger))
  stands_one (Unlocks id t) (Achievement run) (counts.Achievement b) (Some n) is room =
      ap (λ (k : TriggerKept). states.Achievement k.state k.measured)
      (sym (achievement_again run.earned
      (record run.run.trigger { hits = owed_by n b.counted run.run.trigger.hits })))
  stands_one (Unlocks id t) (Achievement run) (counts.Leaderboard b) (Some n) is room = absurd room
  stands_one (Unlocks id t) (Leaderboard run) b owed is room = absurd is
  stands_one (Ranks id format b) (Achievement run) room_of owed is room = absurd is
  stands_one (Ranks id format b) (Leaderboard run) room_of None is room =
      ap (λ k. states.Leaderboard k.state (tracked_number k))
      (sym (board_again b (board_kept run) (member_shape nodes (board_member b) run.member is)))
  stands_one (Ranks id format b) (Leaderboard run) (counts.Leaderboard room_of) (Some n) is room =
      let now = board_kept run in
      let m = board_member b in
      let shape = member_shape nodes m run.member is in
      let fit = counts_fit m room_of.value room now.member shape in
      let owes : BoardKept =
      record { state = now.state; member = owed_member_by n (counts_of room_of.value) now.member } in
      ap (states.Leaderboard run.board) (sym (tracked_by owes.member.values now.member.values
      (owed_by_numbers n (counts_of room_of.value) now.member fit)))
      ∙ ap (λ k. states.Leaderboard k.state (tracked_number k))
      (sym (board_again b owes (owed_by_fits n m (counts_of room_of.value) now.member fit shape)))
  stands_one (Ranks id format b) (Leaderboard run) (counts.Achievement room_of) (Some n) is room = absurd room

  -- item by item
  pub all_seen_kept : (owed : ℕ → Option ℕ) (items : List ItemContents) (runs : List ItemRun)
      (befores : List ItemCounts) → AreItemRuns nodes items runs → length befores ≡ length items
      → ((k : ℕ) → k < length items → (item : ItemContents) (b : ItemCounts) → HasRoom (get_or items
      k item) (get_or befores k b)) → AreSeen items (seen_all seen_run owed runs befores)
  all_seen_kept owed [] [] befores are long each = tt
  all_seen_kept owed [] (run ∷ runs) befores are long each = absurd are
  all_seen_kept owed (item ∷ items) [] befores are long each = absurd are
  all_seen_kept owed (item ∷ items) (run ∷ runs) [] are long each = absurd (omega (arith, long))
  all_seen_kept owed (item ∷ items) (run ∷ runs) (b ∷ befores) are long each = (
    seen_one item run b (owed 0) are.0 (each 0 (omega arith) item b),
    all_seen_kept (λ k. owed (suc k)) items runs befores are.1 (omega (arith, long))
        (λ k within. each (suc k) (omega (arith, within))),
  )

  pub all_earned_kept : (owed : ℕ → Option ℕ) (items : List ItemContents) (runs : List ItemRun)
      (befores : List ItemCounts) → AreItemRuns nodes items runs → length befores ≡ length items
      → ((k : ℕ) → k < length items → (item : ItemContents) (b : ItemCounts)
      → HasRoom (get_or items k item) (get_or befores k b))
      → map is_earned (seen_all seen_run owed runs befores) ≡ map is_earned (map kept_run runs)
  all_earned_kept owed [] [] befores are long each = refl
  all_earned_kept owed [] (run ∷ runs) befores are long each = absurd are
  all_earned_kept owed (item ∷ items) [] befores are long each = absurd are
  all_earned_kept owed (item ∷ items) (run ∷ runs) [] are long each = absurd (omega (arith, long))
  all_earned_kept owed (item ∷ items) (run ∷ runs) (b ∷ befores) are long each =
      ap₂ (λ x xs. x ∷ xs) (earned_one item run b (owed 0) are.0 (each 0 (omega arith) item b))
      (all_earned_kept (λ k. owed (suc k)) items runs befores are.1 (omega (arith, long))
      (λ k within. each (suc k) (omega (arith, within))))

  pub all_stand : (owed : ℕ → Option ℕ) (items : List ItemContents) (runs : List ItemRun)
      (befores : List ItemCounts) → AreItemRuns nodes items runs → length befores ≡ length items
      → ((k : ℕ) → k < length items → (item : ItemContents) (b : ItemCounts)
      → HasRoom (get_or items k item) (get_or befores k b)) → (place : ℕ)
      → option_map run_state (slice_get runs place)
      ≡ option_map item_state (slice_get (zip items (seen_all seen_run owed runs befores)) place)
  all_stand owed [] [] befores are long each place = refl
  all_stand owed [] (run ∷ runs) befores are long each place = absurd are
  all_stand owed (item ∷ items) [] befores are long each place = absurd are
  all_stand owed (item ∷ items) (run ∷ runs) [] are long each place = absurd (omega (arith, long))
  all_stand owed (item ∷ items) (run ∷ runs) (b ∷ befores) are long each zero =
      ap Some (stands_one item run b (owed 0) are.0 (each 0 (omega arith) item b))
  all_stand owed (item ∷ items) (run ∷ runs) (b ∷ befores) are long each (suc place) =
      all_stand (λ k. owed (suc k)) items runs befores are.1 (omega (arith, long))
      (λ k within. each (suc k) (omega (arith, within))) place

-- the rests of all items fit their runs
fitting : (nodes : List Node) (items : List ItemContents) (runs : List ItemRun)
    (befores : List ItemCounts) → AreItemRuns nodes items runs → length befores ≡ length items
    → ((k : ℕ) → k < length items → (item : ItemContents) (b : ItemCounts)
    → HasRoom (get_or items k item) (get_or befores k b)) → AreFitting runs befores
fitting nodes [] [] [] are long each = tt
fitting nodes [] [] (b ∷ befores) are long each = absurd (omega (arith, long))
fitting nodes [] (run ∷ runs) befores are long each = absurd are
fitting nodes (item ∷ items) [] befores are long each = absurd are
fitting nodes (item ∷ items) (run ∷ runs) [] are long each = absurd (omega (arith, long))
fitting nodes (item ∷ items) (run ∷ runs) (b ∷ befores) are long each = (
  one_shape nodes item b run are.0 (each 0 (omega arith) item b),
  fitting nodes items runs befores are.1 (omega (arith, long)) (λ k within. each (suc k) (omega (arith, within))),
)

-- all of it, of the rests of a set
module _ (nodes : List Node) (values : List ℕ) (items : List ItemContents) (runs : List ItemRun)
    (rests : Rests) (are : AreItemRuns nodes items runs)
    (they : AreRests nodes values items runs rests) where
  pub rests_seen : AreSeen items (seen_by runs rests)
  rests_seen = all_seen_kept nodes (owed_at rests.schedule) items runs rests.each.items are they.many they.rooms

  pub rests_earned : map is_earned (seen_by runs rests) ≡ map is_earned (map kept_run runs)
  rests_earned = all_earned_kept nodes (owed_at rests.schedule) items runs rests.each.items are they.many they.rooms

  pub rests_stand : (place : ℕ) → option_map run_state (slice_get runs place)
      ≡ option_map item_state (slice_get (zip items (seen_by runs rests)) place)
  rests_stand place = all_stand nodes
      (owed_at rests.schedule) items runs rests.each.items are they.many they.rooms place

  pub rests_fit : AreFitting runs rests.each.items
  rests_fit = fitting nodes items runs rests.each.items are they.many they.rooms
