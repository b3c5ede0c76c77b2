use Rattle.ra_schedule.proofs.Resting.Lefts.{next_same, said_same}
use Rattle.ra_schedule.proofs.needed.groups_need_few_numbers.Goals as goal

pub returns : goal.returns
returns c = record {
  outcome = λ form f others agree. said_same f others form agree;
  next = next_same;
}
