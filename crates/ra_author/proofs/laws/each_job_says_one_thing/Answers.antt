use Rattle.ra_author_jobs.proofs.OneAnswer.{one_answer}
use Rattle.ra_author.proofs.laws.each_job_says_one_thing.Goals as goal

pub returns : goal.returns
returns c = one_answer
