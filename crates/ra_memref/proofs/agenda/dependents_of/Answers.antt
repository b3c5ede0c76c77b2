use Rattle.std.proofs.Common.{◌≡◌, ◌∙◌, length, ap, arith, subst, sym}
use Rattle.std.proofs.lemmas.Result.{IfOk-weaker}
use Rattle.ra_links.specs.FlatRows.{rows_by}
use Rattle.ra_memref.specs.Due.{AreDependents}
use Rattle.ra_memref.proofs.AgendaLemmas.{AreNaming, dependents_by, naming_more, naming_none}
use Rattle.ra_memref.proofs.agenda.dependents_of.Goals as goal

pub loop-number-init : goal.loop-number-init
loop-number-init c = rw c.in_ok-entries.ensures.items (naming_none c.args.nodes.now)

pub loop-number-preserved : goal.loop-number-preserved
loop-number-preserved c = rw c.in_ok-put_entries.ensures
    (naming_more c.args.nodes.now c.requires.pool c.loop-number.entries.items c.loop-number.number
    c.loop-number-test.true c.loop-number.invariant)

pub returns : goal.returns
returns c =
    let nodes = c.args.nodes.now in
    let entries = c.loop-number.entries.items in
    let end : c.loop-number.number ≡ length nodes = omega arith in
    IfOk-weaker c.new.result _ _
    (λ rows is. subst (AreDependents nodes) (sym (is ∙ ap (rows_by (length nodes)) c.deref.ensures.value)) (
    dependents_by nodes c.requires.pool entries
    (subst (λ n. AreNaming nodes n entries) end c.loop-number.invariant)))
    c.new.ensures
