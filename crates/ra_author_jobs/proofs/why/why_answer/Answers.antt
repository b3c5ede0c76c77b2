use Rattle.ra_author_jobs.proofs.AnswerLemmas.{why_answers, why_owns}
use Rattle.ra_author_jobs.proofs.why.why_answer.Goals as goal

pub returns-in-Ok-clause-says : goal.returns-in-Ok-clause-says
returns-in-Ok-clause-says g c =
    why_answers (g.F.Files.content c.args.files.now) c.args.set.now c.args.trace.now c.args.id
    c.in-Ok.reply.status c.in-Ok.reply.text.items c.in-Ok.ensures.says c.in-Ok.ensures.one

pub returns-in-Ok-clause-own : goal.returns-in-Ok-clause-own
returns-in-Ok-clause-own g c = why_owns c.in-Ok.reply.status c.in-Ok.reply.text.items c.in-Ok.ensures.own
