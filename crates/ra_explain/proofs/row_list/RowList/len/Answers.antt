use Rattle.std.proofs.Common.{[], ◌∷◌, length, arith, ap}
use Rattle.ra_explain.specs.RowLists.{RowsSeen}
use Rattle.ra_explain.proofs.RowLemmas.{length_behind}
use Rattle.ra_explain.proofs.row_list.RowList.len.Goals as goal

pub returns : goal.returns
returns c =
    let t = c.self.inside in
    omega (
      arith,
      length_behind t.width ([] ∷ []) t.truths.items t.links.items,
      ap (λ (r : RowsSeen). length r.behind) c.self.view_is,
      c.len.ensures,
      t.links.ok.0,
    )
