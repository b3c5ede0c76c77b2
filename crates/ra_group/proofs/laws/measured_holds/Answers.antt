use Rattle.ra_group.proofs.OutcomeLemmas.{unmeasured, measured_greatest, measured_zero}
use Rattle.ra_group.proofs.CountingLemmas.{outcome_of-from_hits}
use Rattle.ra_group.proofs.laws.measured_holds.Goals as goal

pub returns : goal.returns
returns c =
    record {
      unmeasured = unmeasured;
      measured = measured_greatest;
      measured_zero = measured_zero;
      from_hits = outcome_of-from_hits;
    }
