use Rattle.ra_calls.proofs.MostLemmas.{few-events}
use Rattle.ra_calls.proofs.laws.events_are_few.Goals as goal

pub returns : goal.returns
returns c = few-events
