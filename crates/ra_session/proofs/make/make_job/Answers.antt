use Rattle.std.proofs.Common.{ap, subst, ◌∙◌, List, ℕ}
use Rattle.ra_io.specs.Causes.{Rose}
use Rattle.ra_session.specs.Closing.{EndsBefore}
use Rattle.ra_session.specs.Expected.{make_line, prints_line}
use Rattle.ra_session.proofs.MakeLemmas.{ran_made}
use Rattle.ra_session.proofs.make.make_job.Goals as goal

pub returns-in-Ok-made_line-clause-ran : goal.returns-in-Ok-made_line-clause-ran
returns-in-Ok-made_line-clause-ran g c = λ content reads puts.
    let line = c.as_str.ensures.value ∙ c.in-Ok-made_line.ensures ∙ ap (make_line c.args.number) c.taken.ensures in
    ran_made c.args.number c.in-Ok.text _ _ c.print_line.result c.in-Ok.ensures.text
    (subst (λ (t : List ℕ). EndsBefore (prints_line t) ⊥ ⊥ (Rose (g.K.Sink.faults c.args.out.now)
    (g.K.Sink.faults c.print_line.new.out)) c.print_line.result (g.K.Sink.text c.args.out.now)
    (g.K.Sink.text c.print_line.new.out)) line c.print_line.ensures.ends)
