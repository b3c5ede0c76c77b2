use Rattle.ra_schedule.proofs.Resting.ValueRest.{value-rested}
use Rattle.ra_schedule.proofs.laws.values_rest.Goals as goal

pub returns : goal.returns
returns c = value-rested
