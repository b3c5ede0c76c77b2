use Rattle.std.proofs.Common.{arith, ap, sym, refl, option_map, ◌∙◌}
use Rattle.ra_args.specs.JobWords.{job_contents}
use Rattle.ra_jobs.specs.Outside.{outside_of}
use Rattle.ra_player.proofs.AnswerLemmas.{answers_no_job, answers_no_memory, answers_job, finishes_in}
use Rattle.ra_player.proofs.LeavesLemmas.{leaves_job}
use Rattle.ra_player.proofs.play.play.Goals as goal

pub returns-in-Ok-Some-clause-answers : goal.returns-in-Ok-Some-clause-answers
returns-in-Ok-Some-clause-answers g c =
    let files = c.do_job-ending.new.files in
    let mid = outside_of (g.F.Files.content files) (g.F.Files.read_faults files)
    (g.F.Files.put_faults files) (g.K.Sink.text c.do_job-ending.new.out)
    (g.K.Sink.faults c.do_job-ending.new.out) in
    answers_job _ _ mid (g.K.Sink.text c.finish.new.out) (g.K.Sink.faults c.finish.new.out)
    (job_contents c.in-Ok-Some.job)
    (sym c.in-Ok-Some.ensures ∙ ap (option_map job_contents) c.in-Ok-Some.field-0-is)
    c.finish.ensures.later c.do_job-ending.result c.finish.result c.do_job-ending.ensures.ran
    (finishes_in _ _ _ _ _ c.finish.result
    (λ rose. omega (arith, rose, c.do_job-ending.ensures.later)) c.finish.ensures.finishes)

pub returns-in-Ok-Some-clause-leaves : goal.returns-in-Ok-Some-clause-leaves
returns-in-Ok-Some-clause-leaves g c =
    leaves_job _ _ _ (g.K.Sink.text c.finish.new.out) (g.K.Sink.faults c.finish.new.out)
    (job_contents c.in-Ok-Some.job) c.do_job-ending.result _ c.finish.result
    (sym c.in-Ok-Some.ensures ∙ ap (option_map job_contents) c.in-Ok-Some.field-0-is)
    c.do_job-ending.ensures.leaves c.finish.ensures.done c.finish.ensures.finishes

pub returns-in-Ok-None-clause-answers : goal.returns-in-Ok-None-clause-answers
returns-in-Ok-None-clause-answers g c = answers_no_job _ _ _ c.finish-in-Ok-None.result
    (sym (ap (option_map job_contents) (sym c.in-Ok-None.field-0-is) ∙ c.in-Ok-None.ensures))
    c.finish-in-Ok-None.ensures.finishes

pub returns-in-Err-clause-answers : goal.returns-in-Err-clause-answers
returns-in-Err-clause-answers g c = answers_no_memory _ _ _ 1 refl refl
