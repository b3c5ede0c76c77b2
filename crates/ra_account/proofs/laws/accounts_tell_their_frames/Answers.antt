use Rattle.ra_account.proofs.ToldLemmas.{told_is}
use Rattle.ra_account.proofs.laws.accounts_tell_their_frames.Goals as goal

pub returns : goal.returns
returns c = told_is
