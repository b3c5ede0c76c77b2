use Rattle.std.proofs.Common.{◌<◌, ◌∙◌, ap, sym, inl, inr, length, slice_index, slice_index_or, slice_set, arith}
use Rattle.std.proofs.lemmas.Bool.{cases_eq, cases_lt}
use Rattle.std.proofs.lemmas.List.{get_or-set_same, get_or-set_other, length-set}
use Rattle.ra_progress.proofs.range.put_all.Goals as goal

pub loop-place-preserved : goal.loop-place-preserved
loop-place-preserved g c =
    let values = c.loop-place.values.items in
    let order = c.args.order.now in
    let place = c.loop-place.place in
    let n = slice_index order place in
    let within : n < length values = omega (
      arith,
      c.loop-place.invariant.long,
      c.requires.numbers place (omega (arith, c.requires.most, c.loop-place-test.true)),
    ) in
    record {
      long = length-set values n c.args.value ∙ c.loop-place.invariant.long;
      there = λ k d low less. elim (cases_eq (slice_index order k) n) [
        | inl same ↦ ap (λ i. slice_index_or (slice_set values n c.args.value) i d) same
            ∙ get_or-set_same values n c.args.value d within
        | inr apart ↦ elim (cases_lt k place) [
          | inl before ↦ get_or-set_other values n (slice_index order k) c.args.value d apart
              ∙ c.loop-place.invariant.there k d low before
          | inr behind ↦ absurd (apart (ap (slice_index order) (omega (arith, less, behind))))
        ]
      ];
      kept = λ i d never. get_or-set_other values n i c.args.value d
          (λ same. never place (omega arith) (omega arith) (sym same))
          ∙ c.loop-place.invariant.kept i d (λ k low less. never k low (omega (arith, less)));
    }

pub returns-clause-kept : goal.returns-clause-kept
returns-clause-kept g c = λ n d never. c.loop-place.invariant.kept n d (λ k low less. never k low (omega arith))
