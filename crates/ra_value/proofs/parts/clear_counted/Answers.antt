use Rattle.std.proofs.Common.{◌≡◌, false, cond, length, get_or, set, map, sym, ap, ◌∙◌, arith}
use Rattle.std.proofs.lemmas.Bool.{cond-true, cond-false}
use Rattle.std.proofs.lemmas.List.{length-map}
use Rattle.ra_condition.specs.Contents.{part_contents, value_contents}
use Rattle.ra_value.specs.Kept.{part_counts}
use Rattle.ra_value.proofs.CountedLemmas.{cleared_none, cleared_more, cleared_all, mark_at}
use Rattle.ra_value.proofs.parts.clear_counted.Goals as goal
use Rattle.ra_value.proofs.parts.clear_counted.Goals.{then-counts, else-counts}

pub loop-place-init : goal.loop-place-init
loop-place-init c = cleared_none (map part_counts (value_contents c.args.text.now)) c.args.numbers.now

pub loop-place-preserved : goal.loop-place-preserved
loop-place-preserved c =
    let place = c.loop-place.place in
    let items = c.deref-part-items.ensures.value in
    let long = length-map c.args.text.now.parts.items part_contents in
    let mark = mark_at c.args.text.now.parts.items place c.part-item.result
    (omega (arith, ap length items)) (c.part-item.is
    ∙ ap (λ xs. get_or xs place c.part-item.result) items) ∙ sym c.counts.ensures in
    let is : c.if-counts.numbers ≡ cond (get_or (map part_counts (value_contents c.args.text.now))
    place false) (set c.loop-place.numbers place 0) c.loop-place.numbers =
    elim c.if-counts.branch [
      | then-counts w ↦ w.numbers-is ∙ sym (cond-true _ _ _ (mark ∙ w.if-counts.true))
      | else-counts w ↦ w.numbers-is ∙ sym (cond-false _ _ _ (mark ∙ w.if-counts.false))
    ] in
    cleared_more (map part_counts (value_contents c.args.text.now)) c.args.numbers.now
    c.loop-place.numbers c.if-counts.numbers place
    (omega (arith, ap length items)) is c.loop-place.invariant

pub returns : goal.returns
returns c =
    let long = length-map c.args.text.now.parts.items part_contents in
    cleared_all (value_contents c.args.text.now) c.args.numbers.now c.loop-place.numbers
    c.loop-place.place (omega arith)
    (omega (arith, ap length c.deref-part-items.ensures.value)) c.loop-place.invariant
