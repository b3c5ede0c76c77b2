use Rattle.std.proofs.Common.{length, codes}
use Rattle.ra_condition.specs.declared.setting.Setting.TheVariants.{InTrigger}
use Rattle.ra_condition.specs.Reading.{condition_at, conditions_at}
use Rattle.ra_text.specs.Table.{only}
use Rattle.ra_text.proofs.Loops.{JoinedSoFar}
use Rattle.ra_condition.proofs.groups.take_conditions.Given as goal

abbrev pub invariant-loop-conditions : goal.invariant-loop-conditions
invariant-loop-conditions l = JoinedSoFar (only (codes "_")) (condition_at InTrigger)
    l.conditions.items l.cursor.rest.now (conditions_at l.fn.cursor.rest.now)

abbrev pub decreases-loop-conditions : goal.decreases-loop-conditions
decreases-loop-conditions l = length l.cursor.rest.now
