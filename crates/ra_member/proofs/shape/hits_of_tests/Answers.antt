use Rattle.std.proofs.Common.{length, ap, arith}
use Rattle.ra_member.specs.declared.trigger_run.TriggerRun.{TriggerRun}
use Rattle.ra_member.proofs.Lengths.{row_within}
use Rattle.ra_member.proofs.shape.hits_of_tests.Goals as goal

pub overflow_add-hits : goal.overflow_add-hits
overflow_add-hits c =
    omega (
      arith,
      c.requires,
      c.loop-test.invariant,
      ap length c.hits.ensures,
      row_within (λ (t : TriggerRun). t.trigger.hits) c.args.tests.now c.loop-test.test-index
          c.test-item.result c.loop-test-test.true c.test-item.is,
    )
