use Rattle.std.proofs.Common.{List, length, map, sym, ◌∙◌, ap}
use Rattle.std.proofs.lemmas.Simd.{map-map}
use Rattle.ra_value.specs.Steps.{ValueKept}
use Rattle.ra_member.specs.declared.value_run.ValueRun.{ValueRun}
use Rattle.ra_schedule.specs.Counted.{CountsSeen}
use Rattle.ra_schedule.specs.Counts.{bit_rows}
use Rattle.ra_schedule.proofs.member_counts.pay_member.Goals as goal

pub pay_values-requires : goal.pay_values-requires
pay_values-requires c =
    ap (λ (rows : List CountsSeen). map length (bit_rows rows)) c.deref-2.ensures.value
    ∙ c.requires.values
    ∙ ap (map length) (map-map (λ (v : ValueKept). v.hits)
    (λ (value : ValueRun). value.value) c.args.member.now.values.items)
    ∙ sym (ap (λ (values : List ValueRun). map length
    (map (λ (value : ValueRun). value.value.hits) values)) c.deref_mut-2.ensures.value)
