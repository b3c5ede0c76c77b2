use Rattle.std.proofs.Common.{Option, Some, List, slice_set, ap, subst, ◌∙◌}
use Rattle.std.proofs.lemmas.List.{length-set}
use Rattle.ra_condition.specs.Contents.{trigger_contents}
use Rattle.ra_explain.specs.Recorders.{KeptRows}
use Rattle.ra_explain.specs.Recordings.{RecordingSeen, over, SavesIn}
use Rattle.ra_explain.specs.RowLists.{rows_from}
use Rattle.ra_explain.specs.Seen.{recording_seen}
use Rattle.ra_explain.specs.Slots.{HaveCounts, counts_of}
use Rattle.ra_explain.proofs.FrameLemmas.{counts_kept}
use Rattle.ra_explain.proofs.SlotLemmas.{slots_kept, slot_set, slots_fit_set, new_slot_fits, keeps_others}
use Rattle.ra_explain.proofs.recording.Recording.save.Goals as goal

pub invariant_of-self : goal.invariant_of-self
invariant_of-self c =
    let r = c.self.inside in
    let t = trigger_contents r.text in
    let inv = c.self.invariant in
    let counts : HaveCounts (counts_of t) r.table r.run.trigger = counts_kept t r.table
    r.run.trigger (rows_from r.rows.behind r.latest) inv.run_too.hits inv.somewhere in
    record {
      few = inv.few;
      over = inv.over;
      run_too = inv.run_too;
      width = inv.width;
      rows_few = inv.rows_few;
      latest = inv.latest;
      somewhere = inv.somewhere;
      unlock = inv.unlock;
      sixteen = length-set r.slots.items c.from.result (Some c.in_ok-kept.kept) ∙ inv.sixteen;
      slots_fit = slots_fit_set t r.rows.behind r.slots.items c.from.result c.in_ok-kept.kept
          inv.slots_fit (new_slot_fits t r.table r.run.trigger r.rows.behind r.latest
          c.in_ok-kept.kept counts inv.latest inv.somewhere c.in_ok-kept.ensures);
    }

pub returns-clause-saved : goal.returns-clause-saved
returns-clause-saved c =
    let r = c.self.inside in
    let t = trigger_contents r.text in
    let inv = c.self.invariant in
    let counts : HaveCounts (counts_of t) r.table r.run.trigger = counts_kept t r.table
    r.run.trigger (rows_from r.rows.behind r.latest) inv.run_too.hits inv.somewhere in
    let slots = slot_set t r.table r.run.trigger r.rows.behind r.latest r.slots.items c.from.result
    c.args.slot c.in_ok-kept.kept counts c.in_ok-kept.ensures c.from.ensures in
    subst (λ (old : RecordingSeen). SavesIn old (record (recording_seen r) {
      slots = slots_kept t r.rows.behind (slice_set r.slots.items c.from.result (Some c.in_ok-kept.kept));
    }) c.args.slot) c.self.view_is
    (ap (λ (ks : List (Option KeptRows)). record (recording_seen r) { slots = ks }) slots)

pub returns-clause-slots : goal.returns-clause-slots
returns-clause-slots c image =
    let saved = returns-clause-saved c in
    keeps_others (over c.args.self.now image) _ c.args.slot _
    (ap (λ (r : RecordingSeen). r.trigger) saved) (ap (λ (r : RecordingSeen). r.slots) saved)
