use Rattle.std.proofs.Common.{Err, ap}
use Rattle.ra_condition.specs.Contents.{trigger_contents}
use Rattle.ra_explain.specs.Compacts.{compact_contents}
use Rattle.ra_explain_job.proofs.PrintLemmas.{printed_whole, printed_fault, printed_part, printed_nothing}
use Rattle.ra_explain_job.proofs.printing.print_unlock.Goals as goal

pub returns-in_default-clause-prints : goal.returns-in_default-clause-prints
returns-in_default-clause-prints g c = printed_nothing c.args.id c.args.recorder.now _ (g.K.Sink.text c.args.out.now)

pub returns-in-Ok-print_explanation-clause-prints : goal.returns-in-Ok-print_explanation-clause-prints
returns-in-Ok-print_explanation-clause-prints g c =
    printed_whole c.args.id c.args.recorder.now (compact_contents c.in-Ok.explanation)
    (trigger_contents c.text.result.now) c.text.ensures c.in-Ok.ensures.explains _ (g.K.Sink.text
    c.args.out.now) (g.K.Sink.text c.print_explanation.new.out) c.in-Ok-print_explanation.ensures.ok

pub returns-in-Err-Failed-clause-prints : goal.returns-in-Err-Failed-clause-prints
returns-in-Err-Failed-clause-prints g c =
    printed_fault c.args.id c.args.recorder.now (compact_contents c.in-Ok.explanation)
    (trigger_contents c.text.result.now) c.text.ensures c.in-Ok.ensures.explains _
    (g.K.Sink.text c.args.out.now) (g.K.Sink.text c.print_explanation.new.out)
    (c.in-Err-Failed.ensures.failed (ap Err c.in-Err-Failed.field-0-is)) c.in-Err-Failed.ensures.part

pub returns-clause-prints : goal.returns-clause-prints
returns-clause-prints g c =
    printed_part c.args.id c.args.recorder.now (compact_contents c.in-Ok.explanation)
    (trigger_contents c.text.result.now) c.text.ensures c.in-Ok.ensures.explains _ (g.K.Sink.text
    c.args.out.now) (g.K.Sink.text c.print_explanation.new.out) c.print_explanation.ensures.part
