-- Items that wait, one after the other over a pool that grows.
use Rattle.std.proofs.Common.{ℕ, List, [], ◌∷◌, ◌++◌, map, refl, sym, ◌∙◌, ap, ap₂, arith}
use Rattle.std.proofs.lemmas.List.{map-append}
use Rattle.ra_indirect.specs.declared.node.Node.{Node}
use Rattle.ra_indirect.specs.Growing.{IsFront}
use Rattle.ra_leaderboard.specs.Contents.{BoardContents}
use Rattle.ra_set.specs.Contents.{ItemContents, Unlocks, Ranks}
use Rattle.ra_set.specs.Limits.{item_conditions}
use Rattle.ra_value_format.specs.declared.format.Format.{Format}
use Rattle.ra_progress.specs.Contents.{OfBoard, plain_item}
use Rattle.ra_member.specs.Members.{MemberContents, trees_in_member, member_conditions}
use Rattle.ra_items.specs.Runs.{IsNewAchievement}
use Rattle.ra_member.proofs.Added.{trigger_more, member_more}
use Rattle.ra_member.proofs.Opened.{none_saved}
use Rattle.ra_member.proofs.GrowthLemmas.{grows_more}
use Rattle.ra_member.proofs.PlanLemmas.{within_as}
use Rattle.ra_items.specs.declared.board_run.BoardRun.{BoardRun}
use Rattle.ra_items.specs.declared.achievement_run.AchievementRun.{AchievementRun}
use Rattle.ra_items.specs.declared.item_run.ItemRun.{ItemRun}
use Rattle.ra_items.specs.declared.item_run.ItemRun.TheVariants.{Achievement, Leaderboard}
use Rattle.ra_meaning.specs.Order.{board_member, trees_in_item, item_shape}
use Rattle.ra_meaning.specs.Boards.{kept_board}
use Rattle.ra_meaning.specs.Openings.{kept_achievement}
use Rattle.ra_items.specs.BoardRuns.{IsNewBoard}
use Rattle.ra_items.specs.ItemRuns.{IsItemRun, IsNewItem, kept_run}
use Rattle.ra_items.specs.AllRuns.{AreItemRuns}
use Rattle.ra_items.specs.Planning.{AreWaiting}
use Rattle.ra_items.proofs.RunsLemmas.{runs_more}
use Rattle.ra_meaning.proofs.Counts.Items.{board_conditions}

-- a run stays one where the pool grows
module _ (old new : List Node) (front : IsFront old new) where
  item_run_more : (item : ItemContents) (run : ItemRun) → IsItemRun old item run → IsItemRun new item run
  item_run_more (Unlocks id t) (Achievement run) is = trigger_more old new front t run.run is
  item_run_more (Unlocks id t) (Leaderboard run) is = absurd is
  item_run_more (Ranks id format b) (Achievement run) is = absurd is
  item_run_more (Ranks id format b) (Leaderboard run) is = member_more old new front (board_member b) run.member is

  pub item_runs_more : (items : List ItemContents) (runs : List ItemRun)
      → AreItemRuns old items runs → AreItemRuns new items runs
  item_runs_more [] [] are = tt
  item_runs_more [] (run ∷ runs) are = absurd are
  item_runs_more (item ∷ items) [] are = absurd are
  item_runs_more (item ∷ items) (run ∷ runs) are = (item_run_more item run are.0, item_runs_more items runs are.1)

pub leaderboard_made : (old new : List Node) (id : ℕ) (format : Format) (b : BoardContents) (run
    : BoardRun) → IsNewBoard old new b run → IsNewItem old new (Ranks id format b) (Leaderboard run)
leaderboard_made old new id format b run made =
    let m : MemberContents = board_member b in
    let zero = none_saved m in
    record {
      grows = within_as old new (trees_in_member m) (trees_in_member m) (member_conditions m)
          (item_conditions (Ranks id format b)) refl
          (omega (arith, board_conditions b id format)) made.made.grows;
      run_too = made.made.member_too;
      plain = (λ i. kept_board (record { state = made.waits i; member = made.made.plain i }))
          ∙ ap₂ (OfBoard 0) zero.0 zero.1;
    }

pub waiting_more : (a b c : List Node) (items : List ItemContents) (runs : List ItemRun)
    (item : ItemContents) (run : ItemRun) → AreWaiting a b items runs → IsNewItem b c item run
    → AreWaiting a c (items ++ item ∷ []) (runs ++ run ∷ [])
waiting_more a b c items runs item run are new = record {
  grows = grows_more trees_in_item item_conditions a b c items item are.grows new.grows;
  runs_too = runs_more c items runs item run
      (item_runs_more b c new.grows.grows.front items runs are.runs_too) new.run_too;
  plain =
      map-append kept_run runs (run ∷ [])
      ∙ ap₂ (λ xs x. xs ++ x ∷ []) are.plain new.plain
      ∙ sym (map-append plain_item (map item_shape items) (item_shape item ∷ []))
      ∙ ap (map plain_item) (sym (map-append item_shape items (item ∷ [])));
}
