-- A table that is laid out for a trigger is over it, and a recorder over it stands for the empty history.
use Rattle.std.proofs.Common.{◌≡◌, ℕ, List, [], ◌∷◌, length, map, replicate, refl, sym, ◌∙◌, ap, subst}
use Rattle.std.specs.List.{flat_map}
use Rattle.ra_condition.specs.Contents.{TriggerContents}
use Rattle.ra_indirect.specs.declared.node.Node.{Node}
use Rattle.ra_indirect.specs.Trees.{cells_in, tracked_in, same_cell, same_tracked}
use Rattle.ra_indirect.specs.Pools.{cells_of, tracked_of}
use Rattle.ra_indirect.proofs.SameLemmas.{cell_is, cell_itself, tracked_is, tracked_itself}
use Rattle.ra_indirect.proofs.GrowingLemmas.{grown-firsts}
use Rattle.ra_chain.specs.Occurrence.{trees_in_trigger}
use Rattle.ra_memref.specs.Table.{TableSeen, IsFresh}
use Rattle.ra_member.specs.declared.trigger_run.TriggerRun.{TriggerRun}
use Rattle.ra_member.specs.Runs.{IsTriggerRun, IsNewTrigger}
use Rattle.ra_explain.specs.Making.{IsLaidOut}
use Rattle.ra_explain.specs.Recorders.{trigger_cells, trigger_tracked, StandsFor}
use Rattle.ra_explain.specs.Slots.{kept_by}

-- a table over a pool that grew by the trees of the trigger is over the trigger, and its plan is that of the pool
pub laid : (t : TriggerContents) (nodes : List Node) (size : ℕ) (table : TableSeen)
    (run : TriggerRun) → IsNewTrigger [] nodes t run → IsFresh nodes size table
    → IsLaidOut t size table run
laid t nodes size table run is fresh =
    let grows = is.grows.grows in
    let cells : cells_of nodes ≡ trigger_cells t = grows.cells
    ∙ grown-firsts same_cell cell_is cell_itself [] (flat_map cells_in (trees_in_trigger t)) in
    let tracked : tracked_of nodes ≡ trigger_tracked t = grows.tracked ∙ grown-firsts same_tracked
    tracked_is tracked_itself [] (flat_map tracked_in (trees_in_trigger t)) in
    record {
      fresh = subst (λ (ns : List Node). IsFresh ns size table) (sym fresh.pool) fresh;
      over = record {
        cells = ap cells_of fresh.pool ∙ cells;
        tracked = ap tracked_of fresh.pool ∙ tracked;
      };
      run_too = subst (λ (ns : List Node). IsTriggerRun ns t run) (sym fresh.pool) is.run_too;
      plain = is.plain;
    }

-- as many zeros as there are things are a zero for each
zeros : {A : Type 0} (xs : List A) → replicate {A = ℕ} (length xs) 0 ≡ map (λ x. 0) xs
zeros [] = refl
zeros (x ∷ xs) = ap (λ ns. 0 ∷ ns) (zeros xs)

-- what was laid out and no row stand for the empty history
pub stands_first : (t : TriggerContents) (size : ℕ) (table : TableSeen) (run : TriggerRun)
    → IsLaidOut t size table run → StandsFor t (kept_by table run.trigger []) []
stands_first t size table run laid = record {
  trigger = laid.plain;
  cells = laid.fresh.cells ∙ ap (λ n. replicate n 0) (ap length laid.over.cells) ∙ zeros (trigger_cells t);
  priors = laid.fresh.priors ∙ ap (λ n. replicate n 0) (ap length laid.over.tracked) ∙ zeros (trigger_tracked t);
  rows = refl;
}
