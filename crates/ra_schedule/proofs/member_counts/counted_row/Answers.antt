use Rattle.std.proofs.Common.{◌++◌, Bool, List, sym, ◌∙◌, ap, ap₂}
use Rattle.std.specs.List.{flat_map}
use Rattle.std.proofs.lemmas.List.Concat.{flat_map-append}
use Rattle.std.proofs.lemmas.List.Folds.{flat_map-map}
use Rattle.ra_schedule.specs.Counted.{CountsSeen}
use Rattle.ra_schedule.specs.Counts.{bit_rows}
use Rattle.ra_schedule.proofs.member_counts.counted_row.Goals as goal

abbrev own : List Bool → List Bool
own bits = bits

abbrev bits : CountsSeen → List Bool
bits c = c.counted

pub returns : goal.returns
returns c =
    let counts = c.args.counts.now in
    c.in_ok-put_counted-2.ensures
    ∙ ap₂ (λ xs ys. xs ++ ys)
    (c.in_ok-put_counted.ensures ∙ ap₂ (λ xs ys. xs ++ ys) c.new-row.ensures.items
    (ap (flat_map bits) c.deref.ensures.value ∙ sym (flat_map-map own bits counts.tests.items)))
    (ap (flat_map bits) c.deref-2.ensures.value ∙ sym (flat_map-map own bits counts.values.items))
    ∙ sym (flat_map-append own (bit_rows counts.tests.items) (bit_rows counts.values.items))
