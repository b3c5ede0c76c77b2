use Rattle.ra_session.specs.Expected.{made}
use Rattle.ra_session.proofs.MadeLimits.{made_contents}
use Rattle.ra_session.proofs.MadeSet.{made_set_is_accepted}
use Rattle.ra_player.proofs.laws.made_sets_are_accepted.Goals as goal

pub returns-clause-set : goal.returns-clause-set
returns-clause-set c = λ number. (made_contents number, made_set_is_accepted number)

pub returns-clause-told : goal.returns-clause-told
returns-clause-told c = λ number. (_, made (made_contents number) (made_set_is_accepted number))
