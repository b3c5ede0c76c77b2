use Rattle.std.proofs.Common.{length, map, slice_index, sym, ◌∙◌, subst}
use Rattle.ra_condition.specs.Contents.{counted_in, value_contents}
use Rattle.ra_group.specs.declared.form.Form.TheVariants.{InValue}
use Rattle.ra_member.proofs.LaidLemmas.{all_summed, laid_fills}
use Rattle.ra_schedule.proofs.MembersRest.SeesSame.{value_sees}
use Rattle.ra_schedule.proofs.MembersRest.Signals.{heard_still, keeps_both}
use Rattle.ra_schedule.specs.Given.{given_by}
use Rattle.ra_schedule.specs.Signals.{IsGivenRead}
use Rattle.ra_schedule.proofs.reads.note_value.Goals as goal

pub note_laid-requires-clause-fills : goal.note_laid-requires-clause-fills
note_laid-requires-clause-fills c =
    laid_fills c.args.table.now.nodes (map counted_in (value_contents c.args.text.now)) c.args.run.now.laid
    c.requires.run.laid

pub note_sums-requires-clause-valued : goal.note_sums-requires-clause-valued
note_sums-requires-clause-valued c =
    rw c.deref-2.ensures.value
    (all_summed c.args.table.now.nodes (value_contents c.args.text.now) c.args.run.now.nodes.items
    c.requires.run.nodes_too)

pub returns-clause-keeps : goal.returns-clause-keeps
returns-clause-keeps c =
    keeps_both c.args.table.now.nodes c.args.signals.now c.note_laid.new.signals c.note_sums.new.signals
    c.in_ok-note_laid.ensures.keeps c.in_ok-note_sums.ensures.keeps

pub returns-clause-told : goal.returns-clause-told
returns-clause-told c = λ values values' now later at at' agree.
    let nodes = c.args.table.now.nodes in
    let parts = value_contents c.args.text.now in
    let run = c.args.run.now in
    let laid = run.laid in
    let reader = c.args.reader in
    let mid = c.note_laid.new.signals in
    let s = c.note_sums.new.signals in
    let noted = c.in_ok-note_laid.ensures in
    let keeps = c.in_ok-note_sums.ensures.keeps in
    let given = c.deref.ensures.value ∙ c.in_ok-given.ensures in
    let read : IsGivenRead (given_by InValue (map counted_in parts)) laid (length laid.ops) mid.readers reader =
    subst (λ flags. IsGivenRead flags laid (length laid.ops) mid.readers reader) given noted.read in
    value_sees nodes s reader values values' now later
    (c.requires.nodes ∙ sym noted.keeps.nodes_too ∙ sym keeps.nodes_too) at at' agree parts run c.requires.run
    (heard_still nodes mid s laid (length laid.ops) reader keeps noted.heard)
    (λ j below gives. keeps.kept (slice_index laid.plan.lefts j) reader (read j below gives))
    (rw c.deref-2.ensures.value at c.in_ok-note_sums.ensures.read)
