use Rattle.std.proofs.Common.{false, slice_index_or, sym, ◌∙◌, ap}
use Rattle.ra_condition.specs.Contents.{groups_of, trigger_contents}
use Rattle.ra_group.specs.declared.form.Form.TheVariants.{InTrigger}
use Rattle.ra_member.proofs.LaidLemmas.{laid_fills}
use Rattle.ra_schedule.proofs.MembersRest.SeesSame.{laid_sees}
use Rattle.ra_schedule.proofs.reads.note_trigger.Goals as goal

pub note_laid-requires-clause-fills : goal.note_laid-requires-clause-fills
note_laid-requires-clause-fills c =
    laid_fills c.args.table.now.nodes (groups_of (trigger_contents c.args.text.now)) c.args.laid.now c.requires.laid

pub returns-clause-told : goal.returns-clause-told
returns-clause-told c = λ values values' now later at at' agree.
    let nodes = c.args.table.now.nodes in
    let groups = groups_of (trigger_contents c.args.text.now) in
    let laid = c.args.laid.now in
    let s = c.note_laid.new.signals in
    let noted = c.in_ok-note_laid.ensures in
    laid_sees nodes s c.args.reader values values' now later (c.requires.nodes ∙ sym noted.keeps.nodes_too) at at' agree
    InTrigger groups laid c.requires.laid noted.heard
    (λ j below gives. noted.read j below
    (ap (λ flags. slice_index_or flags j false) c.deref.ensures.value ∙ c.in_ok-given.ensures j ∙ gives))
