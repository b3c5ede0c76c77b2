use Rattle.ra_condition.specs.Grammar.{trigger}
use Rattle.ra_condition.specs.Reading.{trigger_at}
use Rattle.ra_condition.proofs.GroupReaders.{reads-trigger}
use Rattle.ra_text.proofs.Places.{spelled-once}
use Rattle.ra_condition.proofs.laws.one_trigger.Goals as goal

pub returns : goal.returns
returns c = spelled-once trigger trigger_at reads-trigger
