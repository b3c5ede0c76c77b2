use Rattle.ra_schedule.proofs.Resting.Lefts.{achievement_same, test_same}
use Rattle.ra_schedule.proofs.needed.triggers_need_few_numbers.Goals as goal

pub returns : goal.returns
returns c = record {
  achievements = achievement_same;
  truth = λ t truths lefts others hits same. (test_same t truths lefts others hits same).0;
  hits = λ t truths lefts others hits same. (test_same t truths lefts others hits same).1;
}
