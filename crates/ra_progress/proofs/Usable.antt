-- A usable shape has few names.
use Rattle.std.proofs.Common.{◌<◌, ◌^◌, ◌++◌, length, length-append, option_to_list, arith}
use Rattle.ra_progress.specs.declared.shape.Shape.{Shape}
use Rattle.ra_progress.specs.Names.{IsUsable}
use Rattle.ra_progress.proofs.Orders.{order_length, at_most_one}

module _ (shape : Shape) (is : IsUsable shape) where
  pub few_cells : length shape.cell_order.items < 2 ^ 32
  few_cells =
      let same = order_length shape.cells.items shape.cell_order.items is.searchable.cells in
      omega (arith, same, is.short)

  pub few_priors : length shape.prior_order.items < 2 ^ 32
  few_priors =
      let same = order_length shape.priors.items shape.prior_order.items is.searchable.priors in
      omega (arith, same, is.short)

  pub few_entries : length shape.entry_order.items < 2 ^ 32
  few_entries =
      let same = order_length (shape.item_names.items ++ option_to_list shape.presence_name)
      shape.entry_order.items is.searchable.entries in
      let both = length-append shape.item_names.items (option_to_list shape.presence_name) in
      let one = at_most_one shape.presence_name in
      omega (arith, same, both, one, is.searchable.paired.items, is.searchable.paired.few)
