use Rattle.std.proofs.Common.{◌≡◌, length, map, take, sym, ap, ◌∙◌, arith}
use Rattle.std.proofs.lemmas.List.{take_all, take-map}
use Rattle.ra_member.specs.declared.value_run.ValueRun.{ValueRun}
use Rattle.ra_schedule.specs.Counts.{value_held}
use Rattle.ra_schedule.proofs.room.note_values.Goals as goal

pub returns-clause-noted : goal.returns-clause-noted
returns-clause-noted c = λ yes_it.
    let p = c.loop-place in
    let all = c.args.values.now in
    let end : p.place ≡ length all = omega (arith, c.loop-place-test.false, c.loop-place.auto.place-end) in
    take-map value_held (length all) p.rows
    ∙ ap (λ n. map value_held (take n p.rows)) (sym end)
    ∙ p.invariant.noted
    ∙ ap (map (λ (value : ValueRun). value.value)) (take_all p.place all (omega (arith, end)))
