-- The comparisons that each node has: docs/INTERNALS.md, "Truths of comparisons".
use Rattle.std.specs.Prelude.{◌≡◌, ℕ, ◌<◌, List, length}
use Rattle.ra_links.specs.Rows.{row_at}
use Rattle.ra_memref.specs.Table.{IsListed}
use Rattle.ra_truths.specs.declared.comparison.Comparison.{Comparison}
use Rattle.ra_truths.specs.Comparisons.{comparison_at}

-- there is a row for each node, on which the numbers of the comparisons stand that have it, and no other numbers
pub record AreUses (comparisons : List Comparison) (nodes : ℕ) (rows : List (List ℕ)) : Type 0 where
  pub rows_too : length rows ≡ nodes
  pub left : (k : ℕ) → k < length comparisons → IsListed k (row_at rows (comparison_at comparisons k).left)
  pub right : (k : ℕ) → k < length comparisons → IsListed k (row_at rows (comparison_at comparisons k).right)
  pub within : (node k : ℕ) → IsListed k (row_at rows node) → k < length comparisons
