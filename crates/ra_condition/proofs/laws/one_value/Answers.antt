use Rattle.ra_condition.specs.Values.{value}
use Rattle.ra_condition.specs.ReadingValues.{value_at}
use Rattle.ra_condition.proofs.ValueReaders.{reads-value}
use Rattle.ra_text.proofs.Places.{spelled-once}
use Rattle.ra_condition.proofs.laws.one_value.Goals as goal

pub returns : goal.returns
returns c = spelled-once value value_at reads-value
