use Rattle.ra_meaning.proofs.Changed.ChangedSets.{sets_go_on}
use Rattle.ra_meaning.proofs.Changed.ItemByItem.{item_by_item}
use Rattle.ra_meaning.proofs.Changed.NamedThings.{apart_within}
use Rattle.ra_meaning.proofs.laws.changed_sets_go_on.Goals as goal

pub returns-clause-goes_on : goal.returns-clause-goes_on
returns-clause-goes_on c = sets_go_on

pub returns-clause-premise : goal.returns-clause-premise
returns-clause-premise c = apart_within

pub returns-clause-parts : goal.returns-clause-parts
returns-clause-parts c = item_by_item
