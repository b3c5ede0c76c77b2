-- A table over a pool that grew by the trees of a set has a number for each of its cells and tracked masks.
use Rattle.std.proofs.Common.{◌≡◌, List, [], length, sum_by, ◌∙◌, ap}
use Rattle.std.specs.List.{flat_map}
use Rattle.std.proofs.lemmas.List.{length-replicate}
use Rattle.ra_indirect.specs.declared.node.Node.{Node}
use Rattle.ra_indirect.specs.Trees.{cells_in, tracked_in, same_cell, same_tracked}
use Rattle.ra_indirect.specs.Pools.{cells_of, tracked_of}
use Rattle.ra_indirect.specs.Growing.{GrowsBy}
use Rattle.ra_indirect.proofs.SameLemmas.{cell_is, cell_itself, tracked_is, tracked_itself}
use Rattle.ra_indirect.proofs.GrowingLemmas.{grown-firsts}
use Rattle.ra_chain.proofs.PlantLemmas.{grows_through}
use Rattle.ra_memref.specs.Table.{TableSeen, IsFresh}
use Rattle.ra_set.specs.Contents.{SetContents}
use Rattle.ra_set.specs.Limits.{item_conditions, script_conditions}
use Rattle.ra_member.specs.Plans.{GrowsWithin}
use Rattle.ra_meaning.specs.Order.{trees_in_item, trees_in_line, lines_in, trees_in_set, set_cells, set_tracked}

module _ (set : SetContents) (items pool : List Node) (table : TableSeen) (fresh : IsFresh pool 0 table) where
  module _ (first : GrowsWithin [] items (flat_map trees_in_item set.items) (sum_by item_conditions set.items))
      (next : GrowsWithin items pool (flat_map trees_in_line (lines_in set.script)) (script_conditions set.script))
    where
      grown : GrowsBy [] pool (trees_in_set set)
      grown =
          grows_through [] items pool (flat_map trees_in_item set.items)
          (flat_map trees_in_line (lines_in set.script))
          first.grows next.grows

      pub cells_counted : length table.cells ≡ length (set_cells set)
      cells_counted =
          let once = grown-firsts same_cell cell_is cell_itself [] (flat_map cells_in (trees_in_set set)) in
          ap length fresh.cells ∙ length-replicate (length (cells_of pool)) 0 ∙ ap length (grown.cells ∙ once)

      pub tracked_counted : length table.priors ≡ length (set_tracked set)
      tracked_counted =
          let once = grown-firsts same_tracked tracked_is tracked_itself [] (flat_map tracked_in (trees_in_set set))
          in
          ap length fresh.priors ∙ length-replicate (length (tracked_of pool)) 0 ∙ ap length (grown.tracked ∙ once)
