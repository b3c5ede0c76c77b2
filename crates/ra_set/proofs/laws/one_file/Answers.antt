use Rattle.ra_set.proofs.FileLemmas.{file-once}
use Rattle.ra_set.proofs.laws.one_file.Goals as goal

pub returns : goal.returns
returns c = file-once
