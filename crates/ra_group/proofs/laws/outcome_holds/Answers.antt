use Rattle.ra_group.proofs.OutcomeLemmas.{paused_is, reset_is, valid_is, primed_is}
use Rattle.ra_group.proofs.laws.outcome_holds.Goals as goal

pub returns : goal.returns
returns c = record { paused = paused_is; reset = reset_is; valid = valid_is; primed = primed_is }
