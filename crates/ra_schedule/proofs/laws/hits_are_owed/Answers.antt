use Rattle.ra_schedule.proofs.Resting.OwedLaws.{achievement_owed, test_owed}
use Rattle.ra_schedule.proofs.Resting.ValueRest.{value_owed}
use Rattle.ra_schedule.proofs.laws.hits_are_owed.Goals as goal

pub returns : goal.returns
returns c = record {
  achievements = achievement_owed;
  tests = test_owed;
  values = λ n parts truths lefts sums old. value_owed parts truths lefts sums old n;
}
