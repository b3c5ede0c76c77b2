-- The trigger of an achievement of a set can be watched.
use Rattle.std.proofs.Common.{◌≡◌, ℕ, List, Some}
use Rattle.ra_condition.specs.Contents.{TriggerContents}
use Rattle.ra_set.specs.Accepted.{IsSet}
use Rattle.ra_set.specs.Contents.{SetContents}
use Rattle.ra_set.specs.Spelled.{IsSpelled}
use Rattle.ra_goals.specs.Choosing.{trigger_of}
use Rattle.ra_goals.proofs.ChooseLemmas.{chosen_few, chosen_spelled}
use Rattle.ra_why_job.specs.Choosing.{IsFound}

-- what is found in a set can be watched
pub is_found : (bytes : List ℕ) (id : ℕ) (set : SetContents) (t : TriggerContents) → IsSet bytes set → IsSpelled set
    → trigger_of id set.items ≡ Some t → IsFound bytes id t
is_found bytes id set t is spelled some = record {
  set = set;
  is_set = is;
  found = some;
  few = chosen_few id t set is.limits some;
  spelled = chosen_spelled id t set spelled some;
}
