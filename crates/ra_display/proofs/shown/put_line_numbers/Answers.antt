use Rattle.std.proofs.Common.{◌≡◌, ◌++◌, length, map, take, sym, ◌∙◌, ap, arith}
use Rattle.std.proofs.lemmas.List.{take_all}
use Rattle.std.proofs.lemmas.Simd.{map-map}
use Rattle.ra_value.specs.Steps.{ValueKept, signed_greatest}
use Rattle.ra_member.specs.declared.value_run.ValueRun.{ValueRun}
use Rattle.ra_display.proofs.shown.put_line_numbers.Goals as goal

pub returns : goal.returns
returns c =
    let runs = c.args.line.now.values.items in
    let k = c.loop-run.run-index in
    let all : take k runs ≡ runs = take_all k runs (omega (arith, ap length c.deref-run-items.ensures.value)) in
    let row = ap (map (λ (r : ValueRun). signed_greatest r.value.numbers)) all ∙ sym
    (map-map (λ (v : ValueKept). signed_greatest v.numbers) (λ (r : ValueRun). r.value) runs) in
    c.loop-run.invariant ∙ ap (λ xs. c.args.numbers.now.items ++ xs) row
