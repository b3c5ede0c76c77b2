-- The run at a place, if there is one.
use Rattle.std.proofs.Common.{◌≡◌, ℕ, zero, suc, ◌<◌, ◌≤◌, None, Some, List, [], ◌∷◌, length, get_or, refl, arith}
use Rattle.std.specs.List.{slice_get}
use Rattle.ra_items.specs.declared.item_run.ItemRun.{ItemRun}

-- the run at a place within the runs, and none past their end
pub run_within : (runs : List ItemRun) (place : ℕ) (d : ItemRun) → place < length runs
    → slice_get runs place ≡ Some (get_or runs place d)
run_within [] place d within = absurd (omega arith)
run_within (run ∷ runs) zero d within = refl
run_within (run ∷ runs) (suc place) d within = run_within runs place d (omega arith)

pub run_past : (runs : List ItemRun) (place : ℕ) → length runs ≤ place → slice_get runs place ≡ None
run_past [] place past = refl
run_past (run ∷ runs) zero past = absurd (omega arith)
run_past (run ∷ runs) (suc place) past = run_past runs place (omega arith)
