use Rattle.std.proofs.Common.{sym, subst}
use Rattle.ra_args.specs.JobWords.{job_contents}
use Rattle.ra_args.specs.declared.job_words.Job.{Job}
use Rattle.ra_jobs.specs.Outside.{outside_of}
use Rattle.ra_session.specs.Running.{Ran}
use Rattle.ra_player.proofs.play.do_job.Goals as goal

pub returns-in-Make-clause-ran : goal.returns-in-Make-clause-ran
returns-in-Make-clause-ran g c =
    subst (λ (j : Job). Ran (job_contents j)
    (outside_of (g.F.Files.content c.args.files.now) (g.F.Files.read_faults c.args.files.now)
    (g.F.Files.put_faults c.args.files.now) (g.K.Sink.text c.args.out.now)
    (g.K.Sink.faults c.args.out.now))
    (outside_of (g.F.Files.content c.args.files.now) (g.F.Files.read_faults c.args.files.now)
    (g.F.Files.put_faults c.args.files.now) (g.K.Sink.text c.make_job.new.out)
    (g.K.Sink.faults c.make_job.new.out)) c.make_job.result) (sym c.in-Make.is)
    (c.make_job.ensures.ran (g.F.Files.content c.args.files.now)
    (g.F.Files.read_faults c.args.files.now) (g.F.Files.put_faults c.args.files.now))
