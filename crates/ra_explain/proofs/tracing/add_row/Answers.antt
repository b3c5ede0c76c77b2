use Rattle.std.proofs.Common.{◌≡◌, ◌++◌, length, set, get_or, ap, ap₂, sym, ◌∙◌, arith}
use Rattle.std.proofs.lemmas.List.{take_all, drop_all, append-nil}
use Rattle.ra_explain.specs.HitChanges.{with_row, with_rows}
use Rattle.ra_explain.proofs.NoteLemmas.{length_rows, row_added, one_new, old_at}
use Rattle.ra_explain.proofs.tracing.add_row.Goals as goal

pub loop-place-preserved : goal.loop-place-preserved
loop-place-preserved c =
    let k = c.loop-place.place in
    let olds = c.args.changes.now in
    let after = c.args.after.now in
    let news = with_rows olds after in
    let own = c.index-changes-place.result in
    let same : length news ≡ length olds = length_rows olds after c.requires.after in
    let here : own ≡ get_or olds k own = c.index-changes-place.is ∙ ap (λ xs. get_or xs k own)
    c.loop-place.invariant ∙ old_at olds news k own same c.loop-place-test.true in
    let item : c.add.new.self ≡ get_or news k own =
    c.in_ok-add.ensures ∙ ap (λ o. with_row o (get_or after k 0)) (sym c.index-changes-place.is
    ∙ here) ∙ sym (row_added olds after k own c.loop-place-test.true c.requires.after) in
    ap (λ xs. set xs k c.add.new.self) c.loop-place.invariant
    ∙ one_new olds news k c.add.new.self own same c.loop-place-test.true item

pub returns : goal.returns
returns c =
    let k = c.loop-place.place in
    let olds = c.args.changes.now in
    let news = with_rows olds c.args.after.now in
    let same : length news ≡ length olds = length_rows olds c.args.after.now c.requires.after in
    c.loop-place.invariant ∙ ap₂ (λ xs ys. xs ++ ys) (take_all k news
    (omega (arith, same, c.loop-place-test.false)))
    (drop_all k olds (omega (arith, c.loop-place-test.false))) ∙ append-nil news
