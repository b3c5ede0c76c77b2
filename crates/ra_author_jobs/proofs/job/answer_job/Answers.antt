use Rattle.std.proofs.Common.{IfOk, subst, sym}
use Rattle.ra_args.specs.AuthorWords.{author_contents}
use Rattle.ra_args.specs.declared.author_words.AuthorJob.{AuthorJob}
use Rattle.ra_author_jobs.specs.Expected.{IsAnswer, expected_of}
use Rattle.ra_author_jobs.proofs.AnswerLemmas.{help_answers, import_answers, review_answers, version_answers}
use Rattle.ra_author_jobs.proofs.job.answer_job.Goals as goal

pub returns-in-Review-clause-says : goal.returns-in-Review-clause-says
returns-in-Review-clause-says g c =
    subst (λ (j : AuthorJob). IfOk c.review_answer.result (λ a. IsAnswer
    (g.F.Files.content c.args.files.now) (author_contents j) (expected_of a))) (sym c.in-Review.is)
    (review_answers (g.F.Files.content c.args.files.now) c.in-Review.set.now c.review_answer.result
    c.review_answer.ensures.says)

pub returns-in-Import-clause-says : goal.returns-in-Import-clause-says
returns-in-Import-clause-says g c =
    subst (λ (j : AuthorJob). IfOk c.import_answer.result (λ a. IsAnswer
    (g.F.Files.content c.args.files.now) (author_contents j) (expected_of a))) (sym c.in-Import.is)
    (import_answers (g.F.Files.content c.args.files.now) c.in-Import.file.now c.in-Import.set.now
    c.import_answer.result c.import_answer.ensures.says)

pub returns-in-Help-clause-says : goal.returns-in-Help-clause-says
returns-in-Help-clause-says g c =
    subst (λ (j : AuthorJob). IfOk c.unread.result (λ a. IsAnswer
    (g.F.Files.content c.args.files.now) (author_contents j) (expected_of a))) (sym c.in-Help.is)
    (help_answers (g.F.Files.content c.args.files.now) c.help_answer.result c.unread.result
    c.unread.ensures.ok c.help_answer.ensures)

pub returns-in-Version-clause-says : goal.returns-in-Version-clause-says
returns-in-Version-clause-says g c =
    subst (λ (j : AuthorJob). IfOk c.unread-in-Version.result (λ a. IsAnswer
    (g.F.Files.content c.args.files.now) (author_contents j) (expected_of a))) (sym c.in-Version.is)
    (version_answers (g.F.Files.content c.args.files.now) c.version_answer.result
    c.unread-in-Version.result c.unread-in-Version.ensures.ok c.version_answer.ensures)
