use Rattle.std.proofs.Common.{sym}
use Rattle.ra_schedule.proofs.Resting.GroupLemmas.{outcome_same}
use Rattle.ra_schedule.proofs.Resting.GroupRest.{rest_goes_on}
use Rattle.ra_schedule.proofs.Resting.SeenRest.{rest_kept}
use Rattle.ra_schedule.proofs.laws.groups_rest.Goals as goal

pub returns : goal.returns
returns c = record {
  outcome = λ form f hits agree. sym (outcome_same form f hits agree);
  next = rest_goes_on;
  seen = rest_kept;
}
