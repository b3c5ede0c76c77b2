-- Achievements that are earned by what a caller says: docs/DEFINITIONS.md, "Earned achievements".
use Rattle.std.specs.Prelude.{◌||◌, Bool, List, [], ◌∷◌}
use Rattle.ra_items.specs.declared.item_run.ItemRun.{ItemRun}
use Rattle.ra_items.specs.declared.item_run.ItemRun.TheVariants.{Achievement, Leaderboard}
use Rattle.ra_meaning.specs.Earned.{Earned}

-- an achievement that is earned too where this says so; what its last frame tells stays, and a board is never earned
abbrev pub earned_run : Bool → ItemRun → ItemRun
earned_run earned (Achievement run) = Achievement (record run { earned = run.earned || earned })
earned_run earned (Leaderboard run) = Leaderboard run

-- items of which these are earned too; one without an answer stays
abbrev pub earned_runs : Earned → List ItemRun → List ItemRun
earned_runs [] runs = runs
earned_runs (earned ∷ more) [] = []
earned_runs (earned ∷ more) (run ∷ runs) = earned_run earned run ∷ earned_runs more runs
