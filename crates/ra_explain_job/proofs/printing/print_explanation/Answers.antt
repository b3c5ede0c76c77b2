use Rattle.std.proofs.Common.{◌≡◌, List, Result, Ok, Err, ap, subst, ◌∙◌}
use Rattle.std.specs.Result.{OnOk}
use Rattle.ra_condition.specs.Contents.{trigger_contents, groups_of}
use Rattle.ra_io.specs.Sink.{grown}
use Rattle.ra_explain.specs.Compacts.{compact_contents}
use Rattle.ra_explain.specs.HitChanges.{events_of}
use Rattle.ra_explain.specs.declared.explanation.Event.{Event}
use Rattle.ra_session.specs.Explaining.{groups_text, unlock_text}
use Rattle.ra_jobs.specs.Writing.{GrewByPart}
use Rattle.ra_explain_job.proofs.PrintLemmas.{two_pieces, second_cut, first_cut}
use Rattle.ra_explain_job.proofs.printing.print_explanation.Goals as goal

on_ok : {T E : Type 0} (P Q : Type 0) (r : Result T E) → (P → Q) → OnOk r P → OnOk r Q
on_ok P Q (Ok x) f p = f p
on_ok P Q (Err e) f p = tt

pub returns-in_err-write_all-clause-part : goal.returns-in_err-write_all-clause-part
returns-in_err-write_all-clause-part g c =
    first_cut (g.K.Sink.text c.args.out.now) (g.K.Sink.text c.write_all.new.out)
    (unlock_text c.args.id (compact_contents c.args.explanation.now)) (groups_text 0
    (groups_of (trigger_contents c.args.text.now)) (compact_contents c.args.explanation.now).events)
    (subst (GrewByPart (g.K.Sink.text c.args.out.now) (g.K.Sink.text c.write_all.new.out))
    (c.as_bytes.ensures.value ∙ c.in-Ok.ensures) c.in_err-write_all.ensures.part)

pub returns-clause-ok : goal.returns-clause-ok
returns-clause-ok g c =
    let e = compact_contents c.args.explanation.now in
    let wrote = c.in_ok-write_all.ensures.ok
    ∙ ap (grown (g.K.Sink.text c.args.out.now)) (c.as_bytes.ensures.value ∙ c.in-Ok.ensures) in
    on_ok _ _ c.print_groups.result
    (λ more. two_pieces (g.K.Sink.text c.args.out.now) (g.K.Sink.text c.write_all.new.out)
    (g.K.Sink.text c.print_groups.new.out) (unlock_text c.args.id e)
    (groups_text 0 (groups_of (trigger_contents c.args.text.now)) e.events) wrote
    (subst (λ (es : List (List Event)). g.K.Sink.text c.print_groups.new.out
    ≡ grown (g.K.Sink.text c.write_all.new.out) (groups_text 0 (groups_of (trigger_contents
    c.args.text.now)) es)) (ap events_of c.deref.ensures.value) more)) c.print_groups.ensures.ok

pub returns-clause-part : goal.returns-clause-part
returns-clause-part g c =
    let e = compact_contents c.args.explanation.now in
    let wrote = c.in_ok-write_all.ensures.ok
    ∙ ap (grown (g.K.Sink.text c.args.out.now)) (c.as_bytes.ensures.value ∙ c.in-Ok.ensures) in
    second_cut (g.K.Sink.text c.args.out.now) (g.K.Sink.text c.write_all.new.out)
    (g.K.Sink.text c.print_groups.new.out) (unlock_text c.args.id e)
    (groups_text 0 (groups_of (trigger_contents c.args.text.now)) e.events) wrote
    (subst (λ (es : List (List Event)). GrewByPart (g.K.Sink.text c.write_all.new.out)
    (g.K.Sink.text c.print_groups.new.out) (groups_text 0 (groups_of (trigger_contents
    c.args.text.now)) es)) (ap events_of c.deref.ensures.value) c.print_groups.ensures.part)
