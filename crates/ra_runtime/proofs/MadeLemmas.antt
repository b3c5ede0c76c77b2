-- A table that is laid out for a set is over it.
use Rattle.std.proofs.Common.{◌≡◌, ℕ, ◌+◌, ◌*◌, ◌≤◌, Option, List, [], length, map, filter, sum_by, sym, ◌∙◌, ap, subst}
use Rattle.std.proofs.Common.{arith}
use Rattle.std.specs.List.{flat_map}
use Rattle.std.proofs.lemmas.List.{length-replicate}
use Rattle.ra_indirect.specs.declared.node.Node.{Node}
use Rattle.ra_indirect.specs.Trees.{cells_in, tracked_in, same_cell, same_tracked}
use Rattle.ra_indirect.specs.Pools.{cells_of, tracked_of}
use Rattle.ra_indirect.specs.Growing.{GrowsBy, is_view}
use Rattle.ra_indirect.proofs.SameLemmas.{cell_is, cell_itself, tracked_is, tracked_itself}
use Rattle.ra_indirect.proofs.GrowingLemmas.{grown-firsts}
use Rattle.ra_memref.specs.declared.names.Names.{Names}
use Rattle.ra_memref.specs.Names.{cell_name, tracked_name}
use Rattle.ra_memref.specs.Table.{TableSeen, IsFresh}
use Rattle.ra_set.specs.Contents.{SetContents}
use Rattle.ra_set.specs.Limits.{item_conditions, script_conditions, set_conditions, IsWithinLimits}
use Rattle.ra_items.specs.declared.item_run.ItemRun.{ItemRun}
use Rattle.ra_display.specs.declared.presence_run.PresenceRun.{PresenceRun}
use Rattle.ra_meaning.specs.Order.{trees_in_item, trees_in_line, lines_in, trees_in_set, set_cells, set_tracked}
use Rattle.ra_items.specs.AllRuns.{AreItemRuns}
use Rattle.ra_runtime.specs.Laid.{IsOver, NameSet, IsLaidOut}
use Rattle.ra_display.specs.NewPresence.{IsNewPresence}
use Rattle.ra_member.specs.Plans.{GrowsWithin}
use Rattle.ra_items.specs.Planning.{GrowsByItems, AreWaiting}
use Rattle.ra_display.specs.PresenceRuns.{IsOptionalPresence}
use Rattle.ra_member.proofs.PlanLemmas.{within_through}
use Rattle.ra_meaning.proofs.Counts.Masks.{masks_few}
use Rattle.ra_items.proofs.WaitingLemmas.{item_runs_more}

module _ (set : SetContents) where
  -- a pool that grew by the trees of the set has the cells and the tracked masks of the set
  pub grown_cells : (nodes : List Node) → GrowsBy [] nodes (trees_in_set set) → cells_of nodes ≡ set_cells set
  grown_cells nodes grows =
      grows.cells ∙ grown-firsts same_cell cell_is cell_itself [] (flat_map cells_in (trees_in_set set))

  grown_tracked : (nodes : List Node) → GrowsBy [] nodes (trees_in_set set) → tracked_of nodes ≡ set_tracked set
  grown_tracked nodes grows =
      grows.tracked ∙ grown-firsts same_tracked tracked_is tracked_itself [] (flat_map tracked_in (trees_in_set set))

  -- a table over such a pool is over the set
  pub over_fresh : (nodes : List Node) (size : ℕ) (table : TableSeen)
      → GrowsBy [] nodes (trees_in_set set) → IsFresh nodes size table → IsOver set table
  over_fresh nodes size table grows fresh =
      let cells : cells_of nodes ≡ set_cells set = grown_cells nodes grows in
      let tracked : tracked_of nodes ≡ set_tracked set = grown_tracked nodes grows in
      record {
        cells = ap cells_of fresh.pool ∙ cells;
        tracked = ap tracked_of fresh.pool ∙ tracked;
        cells_many = ap length fresh.cells ∙ length-replicate (length (cells_of nodes)) 0 ∙ ap length cells;
        priors_many = ap length fresh.priors ∙ length-replicate (length (tracked_of nodes)) 0 ∙ ap length tracked;
      }

  -- a pool that grew by the items and then by the display of the set
  module _ (items pool : List Node) (limits : IsWithinLimits set)
      (first : GrowsByItems [] items set.items) (next : GrowsWithin items pool
      (flat_map trees_in_line (lines_in set.script)) (script_conditions set.script)) where
    pub all_grown : GrowsWithin [] pool (trees_in_set set) (set_conditions set)
    all_grown =
        within_through [] items pool (flat_map trees_in_item set.items)
        (flat_map trees_in_line (lines_in set.script)) (sum_by item_conditions set.items)
        (script_conditions set.script) (set_conditions set) (omega arith) first next

    -- two cells and two views for each of 65,536 conditions
    pub few_cells : length (set_cells set) ≤ 131072
    few_cells =
        let most : length (cells_of pool) ≤ 0 + 2 * set_conditions set = all_grown.few_cells in
        omega (arith, most, limits.conditions, ap length (grown_cells pool all_grown.grows))

    pub few_tracked : length (set_tracked set) ≤ 131072
    few_tracked =
        let most : length (filter is_view pool) ≤ 0 + 2 * set_conditions set = all_grown.few_views in
        omega (arith, most, masks_few pool, limits.conditions, ap length (grown_tracked pool all_grown.grows))

    -- the names of such a pool are those of the set
    pub names_set : (names : Names) → names.cells.items ≡ map cell_name (cells_of pool)
        → names.priors.items ≡ map tracked_name (tracked_of pool) → NameSet set names
    names_set names cells priors = record {
      cells = cells ∙ ap (map cell_name) (grown_cells pool all_grown.grows);
      priors_too = priors ∙ ap (map tracked_name) (grown_tracked pool all_grown.grows);
    }

  -- items that wait and a new display over a fresh table
  module _ (items pool : List Node) (size : ℕ) (table : TableSeen) (runs : List ItemRun)
      (presence : Option PresenceRun) (limits : IsWithinLimits set)
      (are : AreWaiting [] items set.items runs) (is : IsNewPresence items pool set.script presence)
      (fresh : IsFresh pool size table) where
    set_grown : GrowsWithin [] pool (trees_in_set set) (set_conditions set)
    set_grown = all_grown items pool limits are.grows is.grows

    all_runs : AreItemRuns pool set.items runs
    all_runs = item_runs_more items pool is.grows.grows.front set.items runs are.runs_too

    pub laid : IsLaidOut set size table runs presence
    laid = record {
      fresh = subst (λ (ns : List Node). IsFresh ns size table) (sym fresh.pool) fresh;
      few = omega (arith, ap length fresh.pool, set_grown.few, limits.conditions);
      over = over_fresh pool size table set_grown.grows fresh;
      few_cells = few_cells items pool limits are.grows is.grows;
      few_tracked = few_tracked items pool limits are.grows is.grows;
      runs_too = subst (λ (ns : List Node). AreItemRuns ns set.items runs) (sym fresh.pool) all_runs;
      plain = are.plain;
      presence_too = subst (λ (ns : List Node). IsOptionalPresence ns set.script presence) (sym fresh.pool) is.run_too;
      plain_too = is.plain;
    }
