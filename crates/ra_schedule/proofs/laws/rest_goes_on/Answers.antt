use Rattle.ra_schedule.proofs.Resting.GoesOn.{achievement_goes_on, test_goes_on, truth_goes_on, value_goes_on}
use Rattle.ra_schedule.proofs.Resting.Owed.{paid_nothing}
use Rattle.ra_schedule.proofs.laws.rest_goes_on.Goals as goal

pub returns : goal.returns
returns c = record {
  achievements = achievement_goes_on;
  tests = test_goes_on;
  truths = truth_goes_on;
  values = value_goes_on;
  nothing = paid_nothing;
}
