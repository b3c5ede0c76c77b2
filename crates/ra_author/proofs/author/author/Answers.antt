use Rattle.std.proofs.Common.{sym}
use Rattle.ra_args.specs.AuthorWords.{author_contents}
use Rattle.ra_author.specs.Endings.{of_job}
use Rattle.ra_author.proofs.author.author.Goals as goal

pub returns-in-Some-clause-ends : goal.returns-in-Some-clause-ends
returns-in-Some-clause-ends g c = of_job (author_contents c.in-Some.job) (sym c.in-Some.ensures) c.do_job.ensures.ends
