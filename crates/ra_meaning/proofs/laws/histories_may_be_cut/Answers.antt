use Rattle.ra_meaning.proofs.Cuts.Law.{cuts_anywhere}
use Rattle.ra_meaning.proofs.laws.histories_may_be_cut.Goals as goal

pub returns : goal.returns
returns c = cuts_anywhere
