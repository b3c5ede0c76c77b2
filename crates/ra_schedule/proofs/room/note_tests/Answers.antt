use Rattle.std.proofs.Common.{◌≡◌, ℕ, length, map, take, sym, ap, ◌∙◌, arith, Vec, Global}
use Rattle.std.proofs.lemmas.List.{take_all, take-map}
use Rattle.ra_member.specs.declared.trigger_run.TriggerRun.{TriggerRun}
use Rattle.ra_schedule.proofs.room.note_tests.Goals as goal

pub returns-clause-noted : goal.returns-clause-noted
returns-clause-noted c = λ yes_it.
    let p = c.loop-place in
    let all = c.args.tests.now in
    let end : p.place ≡ length all = omega (arith, c.loop-place-test.false, c.loop-place.auto.place-end) in
    take-map (λ (row : Vec ℕ Global). row.items) (length all) p.rows
    ∙ ap (λ n. map (λ (row : Vec ℕ Global). row.items) (take n p.rows)) (sym end)
    ∙ p.invariant.noted
    ∙ ap (map (λ (test : TriggerRun). test.trigger.hits)) (take_all p.place all (omega (arith, end)))
