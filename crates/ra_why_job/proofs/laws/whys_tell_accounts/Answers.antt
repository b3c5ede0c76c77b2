use Rattle.ra_why_job.proofs.SayLemmas.{zero_watched}
use Rattle.ra_why_job.proofs.laws.whys_tell_accounts.Goals as goal

pub returns : goal.returns
returns c = λ content set trace file bytes id status text is_file is_trace says.
    zero_watched content set trace file bytes id is_file is_trace status text says
