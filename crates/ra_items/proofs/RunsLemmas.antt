-- All items, one after the other.
use Rattle.std.proofs.Common.{◌≡◌, ℕ, zero, suc, ◌+◌, ◌<◌, List, [], ◌∷◌, ◌++◌, length, drop, get_or, set, refl, sym}
use Rattle.std.proofs.Common.{◌∙◌, ap, arith, add-one}
use Rattle.std.proofs.lemmas.List.{drop-set-lt}
use Rattle.std.proofs.Math.Seq.{drop-cons}
use Rattle.ra_indirect.specs.declared.node.Node.{Node}
use Rattle.ra_set.specs.Contents.{ItemContents}
use Rattle.ra_items.specs.declared.item_run.ItemRun.{ItemRun}
use Rattle.ra_items.specs.ItemRuns.{IsItemRun}
use Rattle.ra_items.specs.AllRuns.{AreItemRuns}

module _ (nodes : List Node) where
  pub length_runs : (items : List ItemContents) (runs : List ItemRun) → AreItemRuns nodes items runs
      → length runs ≡ length items
  length_runs [] [] are = refl
  length_runs [] (run ∷ runs) are = absurd are
  length_runs (item ∷ items) [] are = absurd are
  length_runs (item ∷ items) (run ∷ runs) are = ap suc (length_runs items runs are.1)

  pub run_at : (items : List ItemContents) (runs : List ItemRun) → AreItemRuns nodes items runs
      → (k : ℕ) (d : ItemContents) (e : ItemRun) → k < length items
      → IsItemRun nodes (get_or items k d) (get_or runs k e)
  run_at [] runs are k d e within = absurd (omega arith)
  run_at (item ∷ items) [] are k d e within = absurd are
  run_at (item ∷ items) (run ∷ runs) are zero d e within = are.0
  run_at (item ∷ items) (run ∷ runs) are (suc k) d e within = run_at items runs are.1 k d e (omega arith)

  pub runs_more : (items : List ItemContents) (runs : List ItemRun) (item : ItemContents)
      (run : ItemRun) → AreItemRuns nodes items runs → IsItemRun nodes item run
      → AreItemRuns nodes (items ++ item ∷ []) (runs ++ run ∷ [])
  runs_more [] [] item run are is = (is, tt)
  runs_more [] (r ∷ runs) item run are is = absurd are
  runs_more (i ∷ items) [] item run are is = absurd are
  runs_more (i ∷ items) (r ∷ runs) item run are is = (are.0, runs_more items runs item run are.1 is)

-- what follows a place stays where the one at it is changed
pub rest_more : (runs olds : List ItemRun) (k : ℕ) (run new : ItemRun) → k < length runs → k
    < length olds → drop k runs ≡ drop k olds → drop (k + 1) (set runs k new) ≡ drop (k + 1) olds
rest_more runs olds k run new within within_too rest =
    let both : get_or runs k run ∷ drop (suc k) runs ≡ get_or olds k run ∷ drop (suc k) olds =
    sym (drop-cons runs k run within) ∙ rest ∙ drop-cons olds k run within_too in
    let later : drop (suc k) runs ≡ drop (suc k) olds = cc in
    drop-set-lt (k + 1) runs k new (omega arith) ∙ rw add-one later
