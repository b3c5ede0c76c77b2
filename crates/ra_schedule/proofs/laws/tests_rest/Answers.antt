use Rattle.ra_schedule.proofs.Resting.TriggerRest.{test-rested, truth-rested}
use Rattle.ra_schedule.proofs.laws.tests_rest.Goals as goal

pub returns : goal.returns
returns c = record { hits = test-rested; truth = truth-rested }
