use Rattle.ra_patch.proofs.BadLineLemmas.{bad-lines}
use Rattle.ra_patch.proofs.laws.bad_texts.Goals as goal

pub returns : goal.returns
returns c = bad-lines
