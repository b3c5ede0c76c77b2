use Rattle.std.proofs.Common.{◌&&◌, length, sym, ap, ◌∙◌}
use Rattle.ra_condition.specs.Contents.{groups_of, trigger_contents}
use Rattle.ra_member.proofs.LaidLemmas.{laid_fills, length_ops}
use Rattle.ra_trigger.specs.declared.change.Change.{Change}
use Rattle.ra_trigger.specs.States.{is_waiting}
use Rattle.ra_trigger.specs.Steps.{TriggerKept, step}
use Rattle.ra_why.specs.Watching.{row_read}
use Rattle.ra_why.proofs.ReadLemmas.{steps_read}
use Rattle.ra_why.proofs.WaitLemmas.{stays_waiting}
use Rattle.ra_why.proofs.showing.take_frame.Goals as goal

pub read_frame-requires-clause-laid : goal.read_frame-requires-clause-laid
read_frame-requires-clause-laid c =
    laid_fills c.args.table.now.nodes
    (groups_of (trigger_contents c.args.text.now)) c.args.run.now.laid c.requires.run.laid

pub read_frame-requires-clause-room : goal.read_frame-requires-clause-room
read_frame-requires-clause-room c =
    let many = sym (ap length c.requires.run.laid.ops ∙ length_ops (groups_of (trigger_contents c.args.text.now))) in
    record {
      truths = c.requires.room.truths ∙ many;
      lefts = c.requires.room.lefts ∙ many;
      rights = c.requires.room.rights ∙ many;
      hits = c.requires.room.hits ∙ many;
    }

pub read_frame-requires-clause-kept : goal.read_frame-requires-clause-kept
read_frame-requires-clause-kept c =
    c.requires.run.hits
    ∙ sym (ap length c.requires.run.laid.ops ∙ length_ops (groups_of (trigger_contents c.args.text.now)))

pub returns-clause-run : goal.returns-clause-run
returns-clause-run c = record { laid = c.requires.run.laid; hits = c.step.ensures.count ∙ c.requires.run.hits }

pub returns-clause-steps : goal.returns-clause-steps
returns-clause-steps c =
    steps_read (trigger_contents c.args.text.now) c.args.table.now c.args.run.now
    (record { laid = c.args.run.now.laid; trigger = c.step.new.self }) c.step.result
    c.deref.result.now c.deref-2.result.now c.requires.run.laid
    (c.deref.ensures.value ∙ c.read_frame.ensures.truths)
    (c.deref-2.ensures.value ∙ c.read_frame.ensures.lefts)
    c.step.ensures.kept c.step.ensures.change

pub returns-clause-read : goal.returns-clause-read
returns-clause-read c =
    let read = c.read_frame.ensures in
    (λ i. record { truths = read.truths i; lefts = read.lefts i; rights = read.rights i; hits = read.hits i })

pub returns-clause-waited : goal.returns-clause-waited
returns-clause-waited c =
    let t = trigger_contents c.args.text.now in
    let old = c.args.run.now.trigger in
    let row = row_read c.args.table.now.values c.args.run.now in
    let truths = c.deref.ensures.value ∙ c.read_frame.ensures.truths in
    let lefts = c.deref-2.ensures.value ∙ c.read_frame.ensures.lefts in
    ap (λ (ch : Change). is_waiting ch.before && is_waiting ch.after) c.step.ensures.change
    ∙ ap (λ (k : TriggerKept). is_waiting old.state && is_waiting k.state)
    (c.step.ensures.kept ∙ (λ i. step t (truths i) (lefts i) old))
    ∙ stays_waiting t row.truths row.lefts old
