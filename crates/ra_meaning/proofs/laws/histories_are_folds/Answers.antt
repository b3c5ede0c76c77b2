use Rattle.ra_meaning.proofs.Folded.Lines.{are_folds}
use Rattle.ra_meaning.proofs.laws.histories_are_folds.Goals as goal

pub returns : goal.returns
returns c = are_folds
