use Rattle.std.proofs.Common.{◌∙◌, List, ℕ, refl, subst}
use Rattle.ra_io.specs.Causes.{Rose}
use Rattle.ra_set.specs.Contents.{set_contents}
use Rattle.ra_session.specs.Closing.{EndsBefore}
use Rattle.ra_args.specs.Words.{Check}
use Rattle.ra_session.specs.Expected.{check_line, prints_line}
use Rattle.ra_session.proofs.CheckLemmas.{check_tells, told_no_set, told_set}
use Rattle.ra_session.proofs.run.check_job.Goals as goal

pub returns-in-Err-clause-ran : goal.returns-in-Err-clause-ran
returns-in-Err-clause-ran g c = told_no_set (Check c.args.name.now) check_line c.args.name.now
    (check_tells c.args.name.now) _ _ c.in-Err.unset c.from.result c.from.ensures
    c.in-Err.ensures.failed refl

pub returns-in-Ok-check_line-clause-ran : goal.returns-in-Ok-check_line-clause-ran
returns-in-Ok-check_line-clause-ran g c =
    told_set (Check c.args.name.now) check_line c.args.name.now (check_tells c.args.name.now) _ _
    (set_contents c.in-Ok.set) c.print_line.result c.in-Ok.ensures.set
    (subst (λ (t : List ℕ). EndsBefore (prints_line t) ⊥ ⊥
    (Rose (g.K.Sink.faults c.args.out.now) (g.K.Sink.faults c.print_line.new.out))
    c.print_line.result (g.K.Sink.text c.args.out.now) (g.K.Sink.text c.print_line.new.out))
    (c.as_str.ensures.value ∙ c.in-Ok-check_line.ensures) c.print_line.ensures.ends)
