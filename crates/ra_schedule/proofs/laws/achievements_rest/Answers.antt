use Rattle.ra_schedule.proofs.Resting.TriggerRest.{achievement-rested}
use Rattle.ra_schedule.proofs.laws.achievements_rest.Goals as goal

pub returns : goal.returns
returns c = achievement-rested
