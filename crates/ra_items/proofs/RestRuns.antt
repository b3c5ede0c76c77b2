-- What an item owes, paid.
use Rattle.std.proofs.Common.{◌≡◌, ℕ, min, Option, None, Some, List, length, refl, ◌∙◌}
use Rattle.ra_indirect.specs.declared.node.Node.{Node}
use Rattle.ra_set.specs.Contents.{ItemContents, Unlocks, Ranks}
use Rattle.ra_member.specs.MemberRuns.{StaysMember, kept_by}
use Rattle.ra_items.specs.declared.achievement_run.AchievementRun.{AchievementRun}
use Rattle.ra_items.specs.declared.board_run.BoardRun.{BoardRun}
use Rattle.ra_items.specs.declared.item_run.ItemRun.{ItemRun}
use Rattle.ra_items.specs.declared.item_run.ItemRun.TheVariants.{Achievement, Leaderboard}
use Rattle.ra_items.specs.declared.rest.ItemCounts.{ItemCounts}
use Rattle.ra_items.specs.declared.rest.ItemCounts.TheVariants as counts
use Rattle.ra_items.specs.ItemRuns.{IsItemRun}
use Rattle.ra_meaning.specs.Boards.{kept_board}
use Rattle.ra_meaning.specs.Openings.{kept_achievement}
use Rattle.ra_meaning.specs.Order.{board_member}
use Rattle.ra_schedule.specs.Schedules.{as_hits_tell}
use Rattle.ra_items.specs.Resting.{owed_run, seen_run}
use Rattle.ra_schedule.specs.Counts.{counts_of}
use Rattle.ra_schedule.proofs.MembersRest.Counted.{member_by_at_most, owed_by_at_most}

-- an achievement with other hits, as many of them
pub achievement_stays : (old new : AchievementRun) → new.run.laid ≡ old.run.laid
    → length new.run.trigger.hits ≡ length old.run.trigger.hits
    → (nodes : List Node) (item : ItemContents) → IsItemRun nodes item (Achievement old)
    → IsItemRun nodes item (Achievement new)
achievement_stays old new laid hits nodes (Unlocks id t) is = record { laid = rw laid is.laid; hits = hits ∙ is.hits }
achievement_stays old new laid hits nodes (Ranks id format b) is = absurd is

-- a board that is paid keeps its counts, and stays one with its plans
pub board_stays : (old new : BoardRun) → StaysMember old.member new.member
    → (nodes : List Node) (item : ItemContents) → IsItemRun nodes item (Leaderboard old)
    → IsItemRun nodes item (Leaderboard new)
board_stays old new stays nodes (Unlocks id t) is = absurd is
board_stays old new stays nodes (Ranks id format b) is = stays nodes (board_member b) is

-- hits tell no more than the most frames that they can count
pub run_at_most : (n : ℕ) (b : ItemCounts) (run : ItemRun) → owed_run (min n 4294967295) b run ≡ owed_run n b run
run_at_most n (counts.Achievement b) (Achievement run) =
    (λ i. kept_achievement run.earned
    (record {
      state = run.run.trigger.state;
      measured = run.run.trigger.measured;
      hits = owed_by_at_most n b.counted run.run.trigger.hits i;
    }))
run_at_most n (counts.Leaderboard b) (Leaderboard run) =
    (λ i. kept_board (record {
      state = run.board;
      member = member_by_at_most n (counts_of b.value) (kept_by run.member) i;
    }))
run_at_most n (counts.Achievement b) (Leaderboard run) = refl
run_at_most n (counts.Leaderboard b) (Achievement run) = refl

pub seen_as_told : (run : ItemRun) (b : ItemCounts) (owed : Option ℕ)
    → seen_run run b (as_hits_tell owed) ≡ seen_run run b owed
seen_as_told run b None = refl
seen_as_told run b (Some n) = run_at_most n b run
