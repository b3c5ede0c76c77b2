use Rattle.ra_account.proofs.ToldLemmas.{width_is}
use Rattle.ra_account.proofs.laws.widths_are_least.Goals as goal

pub returns : goal.returns
returns c = width_is
