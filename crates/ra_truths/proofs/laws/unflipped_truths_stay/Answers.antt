use Rattle.ra_truths.proofs.TakingLemmas.{unflipped}
use Rattle.ra_truths.proofs.laws.unflipped_truths_stay.Goals as goal

pub returns : goal.returns
returns c = λ old new table numbers takes none. unflipped old new table takes numbers none
