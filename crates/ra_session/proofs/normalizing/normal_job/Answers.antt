use Rattle.std.proofs.Common.{arith, ◌∙◌, List, ℕ, refl, subst, sym}
use Rattle.ra_io.specs.Causes.{Rose}
use Rattle.ra_args.specs.Words.{Normal}
use Rattle.ra_session.specs.Closing.{EndsBefore}
use Rattle.ra_session.specs.Expected.{prints_line}
use Rattle.ra_session.specs.Running.{HasBytes}
use Rattle.ra_session.proofs.NormalLemmas.{leaves_normal, normal_not_done, ran_no_normal, ran_no_put, ran_normal}
use Rattle.ra_session.proofs.JobLemmas.{leaves_same}
use Rattle.ra_session.proofs.PutLemmas.{has_bytes, leaves_unput}
use Rattle.ra_jobs.proofs.Stays.{same_after}
use Rattle.ra_session.proofs.normalizing.normal_job.Goals as goal

pub returns-in-Err-clause-ran : goal.returns-in-Err-clause-ran
returns-in-Err-clause-ran g c =
    ran_no_normal c.args.set.now c.args.file.now _ _ c.in-Err.failed c.from.result c.from.ensures
    c.in-Err.ensures.failed refl

pub returns-in-Err-clause-leaves : goal.returns-in-Err-clause-leaves
returns-in-Err-clause-leaves g c =
    leaves_same (Normal c.args.set.now c.args.file.now) _ _ c.from.result (λ done. normal_not_done
    c.in-Err.failed (sym c.from.ensures ∙ done)) c.in-Err.ensures.stays.same

pub returns-in-Ok-put-clause-ran : goal.returns-in-Ok-put-clause-ran
returns-in-Ok-put-clause-ran g c =
    ran_normal c.args.set.now c.args.file.now _ _ c.in-Ok.document c.in-Ok.ensures.given c.print_line.result
    (subst (λ (t : List ℕ). EndsBefore (prints_line t) ⊥ ⊥
    (Rose (g.K.Sink.faults c.args.out.now) (g.K.Sink.faults c.print_line.new.out))
    c.print_line.result (g.K.Sink.text c.args.out.now) (g.K.Sink.text c.print_line.new.out))
    c.as_str.ensures.value c.print_line.ensures.ends)

pub returns-in-Ok-put-clause-leaves : goal.returns-in-Ok-put-clause-leaves
returns-in-Ok-put-clause-leaves g c =
    let stays = c.in-Ok.ensures.stays in
    let put = c.in-Ok-put.ensures in
    leaves_normal c.args.set.now c.args.file.now _ _ c.in-Ok.document c.in-Ok.ensures.given c.print_line.result
    (subst (λ (t : List ℕ). EndsBefore (prints_line t) ⊥ ⊥
    (Rose (g.K.Sink.faults c.args.out.now) (g.K.Sink.faults c.print_line.new.out))
    c.print_line.result (g.K.Sink.text c.args.out.now) (g.K.Sink.text c.print_line.new.out))
    c.as_str.ensures.value c.print_line.ensures.ends)
    (subst (λ (b : List ℕ). HasBytes b (g.F.Files.content c.args.files.now)
    (g.F.Files.content c.put.new.self) c.args.file.now) c.as_slice.ensures.value
    (has_bytes c.as_slice.result.now (g.F.Files.content c.args.files.now) _
    (g.F.Files.content c.put.new.self) c.args.file.now stays.same put.ok))
    (λ name other. put.others.each name other ∙ stays.same.each name)

pub returns-clause-ran : goal.returns-clause-ran
returns-clause-ran g c =
    let stays = c.in-Ok.ensures.stays in
    ran_no_put c.args.set.now c.args.file.now _ _ c.in-Ok.document c.in-Ok.ensures.given
    c.in-Err-put.failed c.from-in-Err-put.result c.from-in-Err-put.ensures
    (λ is. let rose = c.in-Err-put.ensures.failed is in omega (arith, rose, stays.puts.each c.args.file.now)) refl

pub returns-clause-leaves : goal.returns-clause-leaves
returns-clause-leaves g c =
    let stays = c.in-Ok.ensures.stays in
    leaves_unput (Normal c.args.set.now c.args.file.now) c.args.file.now refl tt _ _
    c.in-Err-put.failed c.from-in-Err-put.result c.from-in-Err-put.ensures
    (λ is. let rose = c.in-Err-put.ensures.failed is in omega (arith, rose, stays.puts.each c.args.file.now))
    (λ is. same_after _ _ _ stays.same (c.in-Err-put.ensures.memory is))
    (λ name other. c.in-Err-put.ensures.others.each name other ∙ stays.same.each name)
