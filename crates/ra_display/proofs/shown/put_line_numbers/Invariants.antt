use Rattle.std.proofs.Common.{◌≡◌, ◌++◌, map, take}
use Rattle.ra_value.specs.Steps.{signed_greatest}
use Rattle.ra_member.specs.declared.value_run.ValueRun.{ValueRun}
use Rattle.ra_display.proofs.shown.put_line_numbers.Given as goal

abbrev pub invariant-loop-run : goal.invariant-loop-run
invariant-loop-run l =
    l.numbers.items ≡ l.fn.numbers.items ++ map (λ (r : ValueRun). signed_greatest r.value.numbers)
    (take l.run-index l.fn.line.values.items)
