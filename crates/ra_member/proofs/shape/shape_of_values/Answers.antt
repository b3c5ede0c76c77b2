use Rattle.std.proofs.Common.{length, ap, arith}
use Rattle.ra_member.specs.declared.value_run.ValueRun.{ValueRun}
use Rattle.ra_member.proofs.Lengths.{row_within}
use Rattle.ra_member.proofs.shape.shape_of_values.Goals as goal

pub overflow_add-hits : goal.overflow_add-hits
overflow_add-hits c =
    omega (
      arith,
      c.requires.hits,
      c.loop-value.invariant.hits,
      ap length c.hits.ensures,
      row_within (λ (v : ValueRun). v.value.hits) c.args.values.now c.loop-value.value-index
          c.value-item.result c.loop-value-test.true c.value-item.is,
    )

pub overflow_add-numbers : goal.overflow_add-numbers
overflow_add-numbers c =
    omega (
      arith,
      c.requires.numbers,
      c.loop-value.invariant.numbers,
      ap length c.kept.ensures,
      row_within (λ (v : ValueRun). v.value.numbers) c.args.values.now c.loop-value.value-index
          c.value-item.result c.loop-value-test.true c.value-item.is,
    )
