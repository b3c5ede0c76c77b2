use Rattle.ra_trace.proofs.MadeTrace.{made_cut, made_short}
use Rattle.ra_trace.proofs.laws.made_traces_reach_their_end.Goals as goal

pub returns-clause-end : goal.returns-clause-end
returns-clause-end c = made_cut

pub returns-clause-short : goal.returns-clause-short
returns-clause-short c = made_short
