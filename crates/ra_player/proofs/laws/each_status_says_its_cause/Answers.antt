use Rattle.ra_session.specs.Running.{deciding}
use Rattle.ra_player.proofs.StatusLemmas.{says_each, whole_of}
use Rattle.ra_player.proofs.laws.each_status_says_its_cause.Goals as goal

pub returns-clause-whole : goal.returns-clause-whole
returns-clause-whole c = λ words old new status answers. whole_of words old new deciding status answers.printed

pub returns-clause-statuses : goal.returns-clause-statuses
returns-clause-statuses c = says_each
