use Rattle.std.proofs.Common.{arith, ◌≡◌, ◌<◌, ◌*◌, [], ◌∷◌, List, Bool, ℕ, length, map, reverse, ap, sym, subst, ◌∙◌}
use Rattle.std.specs.List.{AllByRecursion}
use Rattle.ra_explain.specs.OrderedRows.{LiesWithin}
use Rattle.ra_explain.specs.RowLists.{RowsSeen, AreIndices, row_at, rows_from}
use Rattle.ra_explain.proofs.RowLemmas.{length_behind}
use Rattle.ra_explain.proofs.OrderLemmas.{all_reverse, all_within, long_rows, map_reverse}
use Rattle.ra_explain.proofs.row_list.RowList.in_order.Goals as goal

pub indices_from-requires-clause-there : goal.indices_from-requires-clause-there
indices_from-requires-clause-there c =
    let t = c.self.inside in
    omega (
      arith,
      length_behind t.width ([] ∷ []) t.truths.items t.links.items,
      ap (λ (r : RowsSeen). length r.behind) c.self.view_is,
      c.requires,
      ap length c.deref.ensures.value,
    )

order_within : (width : ℕ) (truths : List Bool) (links ls indices order : List ℕ) (place : ℕ)
    → length truths ≡ length links * width → ls ≡ links → order ≡ reverse indices
    → AreIndices ls place indices → AllByRecursion (LiesWithin width truths) order
order_within width truths links ls indices order place whole same is are =
    subst (AllByRecursion (LiesWithin width truths)) (sym is)
    (all_within width (length ls) truths (reverse indices) (whole ∙ ap (λ n. n * width)
    (ap length (sym same))) (all_reverse (λ k. k < length ls) indices are.within))

pub new-requires : goal.new-requires
new-requires c =
    let t = c.self.inside in
    subst (λ (ts : List Bool). AllByRecursion (LiesWithin t.width ts) c.reverse.new.self.items)
    (sym c.deref-2.ensures.value)
    (order_within t.width t.truths.items t.links.items c.deref.result.now c.in_ok-order.order.items
    c.reverse.new.self.items c.args.place c.self.invariant.whole c.deref.ensures.value
    c.reverse.ensures.items c.in_ok-order.ensures)

pub returns-clause-rows : goal.returns-clause-rows
returns-clause-rows c =
    let t = c.self.inside in
    let indices = c.in_ok-order.order.items in
    let are : AreIndices t.links.items c.args.place indices = subst (λ (ls : List ℕ). AreIndices ls
    c.args.place indices) c.deref.ensures.value c.in_ok-order.ensures in
    c.new.ensures ∙ (λ i. map (row_at t.width (c.deref-2.ensures.value i))
    (c.reverse.ensures.items i)) ∙ map_reverse (row_at t.width t.truths.items) indices
    ∙ ap reverse (are.rows t.width t.truths.items)
    ∙ ap (λ (r : RowsSeen). reverse (rows_from r.behind c.args.place)) c.self.view_is

pub returns-clause-width : goal.returns-clause-width
returns-clause-width c =
    let t = c.self.inside in
    let within = order_within t.width t.truths.items t.links.items c.deref.result.now
    c.in_ok-order.order.items c.reverse.new.self.items c.args.place c.self.invariant.whole
    c.deref.ensures.value c.reverse.ensures.items c.in_ok-order.ensures in
    let rows : c.new.result ≡ map (row_at t.width t.truths.items) c.reverse.new.self.items =
    c.new.ensures
    ∙ ap (λ ts. map (row_at t.width ts) c.reverse.new.self.items) c.deref-2.ensures.value in
    subst (λ (r : RowsSeen). AllByRecursion (λ row. length row ≡ r.width) c.new.result) c.self.view_is
    (subst (AllByRecursion (λ row. length row ≡ t.width)) (sym rows)
    (long_rows t.width t.truths.items c.reverse.new.self.items within))
