-- Achievements with their plans, and what a frame of a table does to them: docs/DEFINITIONS.md, "What a runtime keeps".
use Rattle.std.specs.Prelude.{◌≡◌, ◌||◌, Bool, false, List}
use Rattle.ra_condition.specs.Contents.{TriggerContents}
use Rattle.ra_indirect.specs.declared.node.Node.{Node}
use Rattle.ra_memref.specs.Table.{TableSeen}
use Rattle.ra_trigger.specs.States.{is_triggered}
use Rattle.ra_member.specs.Runs.{IsTriggerRun, IsNewTrigger, StepsAchievement as StepsTrigger}
use Rattle.ra_items.specs.declared.achievement_run.AchievementRun.{AchievementRun}

-- an achievement with its plan
abbrev pub IsAchievementRun : List Node → TriggerContents → AchievementRun → Type 0
IsAchievementRun nodes t run = IsTriggerRun nodes t run.run

-- an achievement that waits and is not earned, over a pool that grew by its trees
pub record IsNewAchievement (old new : List Node) (t : TriggerContents) (run : AchievementRun) : Type 0 where
  pub trigger : IsNewTrigger old new t run.run
  pub earned : run.earned ≡ false

-- whether an achievement is earned: it was before its last frame, was given since, or is triggered
abbrev pub earned_by : AchievementRun → Bool
earned_by run = run.earned || is_triggered run.run.trigger.state

-- one frame of an achievement, and the record of it: it is silent where it was earned before the frame, and stays
-- earned
pub record StepsAchievement (table : TableSeen) (t : TriggerContents) (old new : AchievementRun) : Type 0 where
  pub trigger : StepsTrigger table t old.run new.run new.change
  pub earned : new.earned ≡ earned_by old
  pub silent : new.silent ≡ earned_by old
