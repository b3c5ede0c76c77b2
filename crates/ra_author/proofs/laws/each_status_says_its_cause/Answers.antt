use Rattle.ra_author.proofs.StatusLemmas.{leaves_each, says_each}
use Rattle.ra_author.proofs.laws.each_status_says_its_cause.Goals as goal

pub returns-clause-statuses : goal.returns-clause-statuses
returns-clause-statuses c = says_each

pub returns-clause-leaves : goal.returns-clause-leaves
returns-clause-leaves c = leaves_each
