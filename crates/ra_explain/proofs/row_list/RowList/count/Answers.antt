use Rattle.std.proofs.Common.{arith, [], ◌∷◌, length, ap, sym, ◌∙◌}
use Rattle.ra_explain.specs.RowLists.{RowsSeen, behind_each, rows_from}
use Rattle.ra_explain.proofs.RowLemmas.{length_behind}
use Rattle.ra_explain.proofs.row_list.RowList.count.Goals as goal

pub count_from-requires-clause-there : goal.count_from-requires-clause-there
count_from-requires-clause-there c =
    let t = c.self.inside in
    omega (
      arith,
      length_behind t.width ([] ∷ []) t.truths.items t.links.items,
      ap (λ (r : RowsSeen). length r.behind) c.self.view_is,
      c.requires,
      ap length c.deref.ensures.value,
    )

pub returns : goal.returns
returns c =
    let t = c.self.inside in
    sym (ap (λ (r : RowsSeen). length (rows_from r.behind c.args.place)) c.self.view_is)
    ∙ sym (ap (λ ls. length (rows_from (behind_each t.width t.truths.items ls) c.args.place)) c.deref.ensures.value)
    ∙ c.count_from.ensures t.width t.truths.items
