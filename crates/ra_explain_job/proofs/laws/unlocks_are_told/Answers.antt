use Rattle.ra_explain_job.proofs.ToldLemmas.{unlocks_are_told}
use Rattle.ra_explain_job.proofs.laws.unlocks_are_told.Goals as goal

pub returns : goal.returns
returns c = unlocks_are_told
