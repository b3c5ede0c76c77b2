use Rattle.ra_condition.specs.Contents.{groups_of, trigger_contents}
use Rattle.ra_group.specs.declared.form.Form.TheVariants.{InTrigger}
use Rattle.ra_schedule.specs.Inputs.{Instant, SeeSame}
use Rattle.ra_schedule.proofs.MembersRest.Signals.{keeps_both}
use Rattle.ra_schedule.proofs.MembersRest.Woken.{told_still}
use Rattle.ra_items.proofs.rest.note_tests.Goals as goal

pub returns-clause-keeps : goal.returns-clause-keeps
returns-clause-keeps c =
    let nodes = c.args.table.now.nodes in
    let one = c.note_trigger.new.signals in
    let two = c.note_trigger-2.new.signals in
    let three = c.note_trigger-3.new.signals in
    keeps_both nodes c.args.signals.now two three
    (keeps_both nodes c.args.signals.now one two c.in_ok-note_trigger.ensures.keeps
    c.in_ok-note_trigger-2.ensures.keeps) c.in_ok-note_trigger-3.ensures.keeps

pub returns-clause-told : goal.returns-clause-told
returns-clause-told c = λ values values' now later at at' agree.
    let nodes = c.args.table.now.nodes in
    let text = c.args.text.now in
    let reader = c.args.reader in
    let one = c.note_trigger.new.signals in
    let two = c.note_trigger-2.new.signals in
    let three = c.note_trigger-3.new.signals in
    let second = c.in_ok-note_trigger-2.ensures in
    let third = c.in_ok-note_trigger-3.ensures in
    let both = keeps_both nodes one two three second.keeps third.keeps in
    let start = told_still (λ (now later : Instant). SeeSame InTrigger now later
    (groups_of (trigger_contents text.start))) nodes one.comparisons three.comparisons one.readers
    three.readers reader
    both.front both.kept c.in_ok-note_trigger.ensures.told in
    let cancel = told_still (λ (now later : Instant). SeeSame InTrigger now later
    (groups_of (trigger_contents text.cancel))) nodes two.comparisons three.comparisons two.readers
    three.readers reader
    third.keeps.front third.keeps.kept second.told in (
      start values values' now later at at' agree,
      (cancel values values' now later at at' agree, (third.told values values' now later at at' agree, tt)),
    )
