use Rattle.std.proofs.Common.{Err, ap, refl}
use Rattle.ra_args.specs.AuthorWords.{author_contents}
use Rattle.ra_author.specs.Endings.{read_failed}
use Rattle.ra_author_jobs.specs.Expected.{expected_of}
use Rattle.ra_jobs.specs.Outside.{outside_of}
use Rattle.ra_author.proofs.EndLemmas.{answer_ends}
use Rattle.ra_author.proofs.author.do_job.Goals as goal

pub returns-in-Ok-clause-ends : goal.returns-in-Ok-clause-ends
returns-in-Ok-clause-ends g c =
    let told = c.in-Ok.ensures in
    answer_ends
    (outside_of (g.F.Files.content c.args.files.now) (g.F.Files.read_faults c.args.files.now)
    (g.F.Files.put_faults c.args.files.now) (g.K.Sink.text c.args.out.now)
    (g.K.Sink.faults c.args.out.now))
    (outside_of (g.F.Files.content c.answer_job.new.files)
    (g.F.Files.read_faults c.answer_job.new.files) (g.F.Files.put_faults c.answer_job.new.files)
    (g.K.Sink.text c.args.out.now) (g.K.Sink.faults c.args.out.now))
    (outside_of (g.F.Files.content c.print_answer.new.files)
    (g.F.Files.read_faults c.print_answer.new.files) (g.F.Files.put_faults c.print_answer.new.files)
    (g.K.Sink.text c.print_answer.new.out) (g.K.Sink.faults c.print_answer.new.out))
    (author_contents c.args.job.now) (expected_of c.in-Ok.answer) c.print_answer.result refl refl
    told.stays.same told.stays.puts told.own told.says
    c.print_answer.ensures.ends

pub returns-in-Err-Failed-clause-ends : goal.returns-in-Err-Failed-clause-ends
returns-in-Err-Failed-clause-ends g c =
    read_failed (c.in-Err-Failed.ensures.failed (ap Err c.in-Err-Failed.field-0-is))
    c.in-Err-Failed.ensures.stays.same c.put_last.ensures.closes
