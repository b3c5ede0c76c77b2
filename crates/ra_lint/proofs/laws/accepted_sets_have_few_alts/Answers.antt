use Rattle.ra_lint.proofs.AltCounts.{few_alts}
use Rattle.ra_lint.proofs.laws.accepted_sets_have_few_alts.Goals as goal

pub returns : goal.returns
returns c = few_alts
