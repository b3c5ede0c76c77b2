use Rattle.ra_schedule.proofs.Resting.Lefts.{value_same}
use Rattle.ra_schedule.proofs.needed.values_need_few_numbers.Goals as goal

pub returns : goal.returns
returns c = value_same
