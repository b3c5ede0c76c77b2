use Rattle.ra_schedule.proofs.Resting.SeenLaws.{achievement_seen, test_seen}
use Rattle.ra_schedule.proofs.Resting.ValueRest.{value_seen}
use Rattle.ra_schedule.proofs.laws.rest_is_seen.Goals as goal

pub returns : goal.returns
returns c = record {
  achievements = achievement_seen;
  tests = test_seen;
  values = λ parts truths lefts sums old long numbers kept. value_seen parts truths lefts sums old long numbers kept;
}
