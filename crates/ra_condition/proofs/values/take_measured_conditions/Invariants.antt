use Rattle.std.proofs.Common.{length, codes}
use Rattle.ra_condition.specs.declared.setting.Setting.TheVariants.{InValue}
use Rattle.ra_condition.specs.Reading.{condition_at}
use Rattle.ra_condition.specs.ReadingValues.{measured_conditions_at}
use Rattle.ra_condition.specs.Values.{measured_by}
use Rattle.ra_text.specs.Table.{only}
use Rattle.ra_text.proofs.Loops.{Looping}
use Rattle.ra_condition.proofs.values.take_measured_conditions.Given as goal

abbrev pub invariant-others : goal.invariant-others
invariant-others l = Looping (λ so_far. only (codes "_"))
    (λ so_far tag. condition_at InValue) measured_by (λ so_far. so_far) l.conditions.items
    l.measured l.cursor.rest.now (measured_conditions_at l.fn.cursor.rest.now)

abbrev pub decreases-others : goal.decreases-others
decreases-others l = length l.cursor.rest.now
