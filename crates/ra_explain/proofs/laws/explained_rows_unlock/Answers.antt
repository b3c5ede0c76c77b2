use Rattle.ra_explain.proofs.FollowLemmas.{unlock_follows}
use Rattle.ra_explain.proofs.laws.explained_rows_unlock.Goals as goal

pub returns : goal.returns
returns c = unlock_follows
