-- A course is current where its table agrees with the image.
use Rattle.std.proofs.Common.{◌≡◌, ℕ, ◌<◌, true, false, List, length, get_or, sym, ◌∙◌, ap}
use Rattle.ra_memory.specs.Image.{raw}
use Rattle.ra_memref.specs.Table.{TableSeen, Agrees, no_cell}
use Rattle.ra_set.specs.Contents.{SetContents}
use Rattle.ra_meaning.specs.Order.{set_cells}
use Rattle.ra_runtime.specs.Laid.{IsOver}

module _ (set : SetContents) (table : TableSeen) (image : List ℕ) (over : IsOver set table) where
  -- the same by the cells of the set
  abbrev pub HasNumbers : Type 0
  HasNumbers = (k : ℕ) → k < length table.cells → get_or table.marked k true ≡ false → get_or
      table.cells k 0 ≡ raw (get_or (set_cells set) k no_cell).width image (get_or table.places k 0)

  pub agrees_current : HasNumbers → Agrees table image
  agrees_current has k below unmarked = has k below unmarked
      ∙ ap (λ cs. raw (get_or cs k no_cell).width image (get_or table.places k 0)) (sym over.cells)

  pub current_agrees : Agrees table image → HasNumbers
  current_agrees agrees k below unmarked = agrees k below unmarked
      ∙ ap (λ cs. raw (get_or cs k no_cell).width image (get_or table.places k 0)) over.cells
