use Rattle.std.proofs.Common.{arith, [], ◌∷◌, length, ap}
use Rattle.ra_explain.specs.RowLists.{RowsSeen}
use Rattle.ra_explain.proofs.RowLemmas.{length_behind}
use Rattle.ra_explain.proofs.row_list.RowList.behind.Goals as goal

pub rows_at-requires-clause-there : goal.rows_at-requires-clause-there
rows_at-requires-clause-there c =
    let t = c.self.inside in
    omega (
      arith,
      length_behind t.width ([] ∷ []) t.truths.items t.links.items,
      ap (λ (r : RowsSeen). length r.behind) c.self.view_is,
      c.requires,
      ap length c.deref-2.ensures.value,
    )
