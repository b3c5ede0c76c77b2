use Rattle.std.proofs.Common.{◌≡◌, ◌<◌, ◌-◌, ◌++◌, [], ◌∷◌, length, length-append, take, drop, ap, sym, ◌∙◌, arith}
use Rattle.std.specs.Vec.{with_items}
use Rattle.std.proofs.lemmas.List.{length-take-le, length-drop, with_items_is}
use Rattle.ra_explain.specs.RowLists.{RowsSeen, behind_each, refilled, truths_laid}
use Rattle.ra_explain.proofs.RowLemmas.{length_behind, last_filled, one_row, put_last, taken_long}
use Rattle.ra_explain.proofs.row_list.RowList.fill.Goals as goal

pub overflow_sub-from : goal.overflow_sub-from
overflow_sub-from c =
    let t = c.self.inside in
    let places = length_behind t.width ([] ∷ []) t.truths.items t.links.items in
    let some : 0 < length t.links.items =
    omega (arith, places, c.requires.some, ap (λ (r : RowsSeen). length r.behind) c.self.view_is) in
    let room = one_row t.width (length t.links.items) some in
    omega (arith, room, c.self.invariant.whole, c.len.ensures, t.truths.ok.0)

pub read_row-requires-clause-long : goal.read_row-requires-clause-long
read_row-requires-clause-long c =
    let t = c.self.inside in
    let places = length_behind t.width ([] ∷ []) t.truths.items t.links.items in
    let some : 0 < length t.links.items =
    omega (arith, places, c.requires.some, ap (λ (r : RowsSeen). length r.behind) c.self.view_is) in
    let room = one_row t.width (length t.links.items) some in
    let xs = c.deref_mut.result.now in
    let from = c.len.result - t.width in
    let all : length xs ≡ length t.truths.items = ap length c.deref_mut.ensures.value in
    let width = ap (λ (r : RowsSeen). r.width) c.self.view_is in
    let rest = length-drop from xs in
    let taken : length (take (length xs - from) (drop from xs)) ≡ length xs - from =
    length-take-le (length xs - from) (drop from xs) (omega (arith, rest)) in
    omega (arith, taken, all, room, width, c.self.invariant.whole, c.len.ensures, t.truths.ok.0, c.requires.width)

pub returns : goal.returns
returns c =
    let t = c.self.inside in
    let places = length_behind t.width ([] ∷ []) t.truths.items t.links.items in
    let some : 0 < length t.links.items =
    omega (arith, places, c.requires.some, ap (λ (r : RowsSeen). length r.behind) c.self.view_is) in
    let room = one_row t.width (length t.links.items) some in
    let xs = c.deref_mut.result.now in
    let from = c.len.result - t.width in
    let row = truths_laid c.args.table.now.values c.args.laid.now in
    let width = ap (λ (r : RowsSeen). r.width) c.self.view_is in
    let many : c.len.result ≡ length t.truths.items = omega (arith, c.len.ensures, t.truths.ok.0) in
    let long : length row ≡ t.width = ap length (sym c.read_row.ensures) ∙ c.read_row.auto.row
    ∙ taken_long xs t.truths.items from t.width c.deref_mut.ensures.value
    (omega (arith, room, many, c.self.invariant.whole)) in
    let whole : take from xs ++ (c.read_row.new.row ++ drop (length xs - from) (drop from xs))
    ≡ take from t.truths.items ++ row = ap (λ r. take from xs
    ++ (r ++ drop (length xs - from) (drop from xs))) c.read_row.ensures
    ∙ put_last xs t.truths.items row from c.deref_mut.ensures.value in
    let fits : length (take from t.truths.items ++ row) ≡ t.truths.len =
    length-append (take from t.truths.items) row
    ∙ omega (
      arith,
      length-take-le from t.truths.items (omega (arith, many)),
      long,
      many,
      room,
      c.self.invariant.whole,
      t.truths.ok.0,
    ) in
    let now : (with_items t.truths (take from xs
    ++ (c.read_row.new.row ++ drop (length xs - from) (drop from xs)))).items
    ≡ take from t.truths.items ++ row = with_items_is t.truths (take from xs ++ (c.read_row.new.row
    ++ drop (length xs - from) (drop from xs))) (ap length whole ∙ fits) ∙ whole in
    ap (λ ts. record { width = t.width; behind = behind_each t.width ts t.links.items }) now
    ∙ ap (λ b. record { width = t.width; behind = b }) (last_filled t.width t.truths.items row
    t.links.items from c.self.invariant.whole some long (ap (λ n. n - t.width) many))
    ∙ ap (λ (r : RowsSeen). record { width = r.width; behind = refilled r.behind row }) c.self.view_is
