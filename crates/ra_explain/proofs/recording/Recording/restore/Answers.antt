use Rattle.std.proofs.Common.{◌≡◌, true, false, None, Some, List, length, replicate, slice_index_or, ap, sym, subst}
use Rattle.std.proofs.Common.{◌∙◌}
use Rattle.std.proofs.lemmas.Bool.{false≢true}
use Rattle.ra_condition.specs.Contents.{trigger_contents, groups_of}
use Rattle.ra_indirect.specs.declared.node.Node.{Node}
use Rattle.ra_indirect.specs.Pools.{cells_of, tracked_of}
use Rattle.ra_text.proofs.Rows.{length-words_at}
use Rattle.ra_memref.proofs.AgreeLemmas.{Agrees-marked}
use Rattle.ra_trigger.specs.Steps.{TriggerKept}
use Rattle.ra_member.specs.Runs.{IsLaid}
use Rattle.ra_explain.specs.Recordings.{RecordingSeen, TakesUp}
use Rattle.ra_explain.specs.RowLists.{rows_from}
use Rattle.ra_explain.specs.Seen.{recording_seen}
use Rattle.ra_explain.specs.Slots.{StandsSomewhere, FitsSlot, HaveCounts, counts_of, kept_by}
use Rattle.ra_explain.proofs.CurrentLemmas.{current_agrees}
use Rattle.ra_explain.proofs.FrameLemmas.{counts_kept}
use Rattle.ra_explain.proofs.SlotLemmas.{slot_fits, slot_is, taken_up}
use Rattle.ra_explain.proofs.recording.Recording.restore.Goals as goal

pub invariant_of-self : goal.invariant_of-self
invariant_of-self c =
    let r = c.self.inside in
    let t = trigger_contents r.text in
    let inv = c.self.invariant in
    let slot = c.in-Some.kept.now in
    let table = c.put_back.new.self in
    let here : slice_index_or r.slots.items c.args.slot None ≡ Some slot = ap (λ ss. slice_index_or
    ss c.args.slot None) (sym c.as_slice.ensures.value) ∙ sym c.in-Some.ensures in
    let fits : FitsSlot t r.rows.behind slot =
    slot_fits t r.rows.behind r.slots.items c.args.slot slot inv.slots_fit here in
    let counts : HaveCounts (counts_of t) r.table r.run.trigger = counts_kept t r.table
    r.run.trigger (rows_from r.rows.behind r.latest) inv.run_too.hits inv.somewhere in
    let taken = taken_up t r.table table r.run.trigger c.put_back-2.new.self r.rows.behind slot
    c.deref.result.now c.deref-2.result.now counts c.put_back.ensures c.deref.ensures.value
    c.deref-2.ensures.value c.put_back-2.ensures in
    record {
      few = inv.few;
      over = record {
        cells = ap cells_of c.put_back.ensures.pool.0 ∙ inv.over.cells;
        tracked = ap tracked_of c.put_back.ensures.pool.0 ∙ inv.over.tracked;
      };
      run_too = record {
        laid = subst (λ (ns : List Node). IsLaid ns (groups_of t) r.run.laid)
            (sym c.put_back.ensures.pool.0) inv.run_too.laid;
        hits = ap (λ (k : TriggerKept). length k.hits) c.put_back-2.ensures
            ∙ length-words_at c.deref-2.result.now 0 (length r.run.trigger.hits) ∙ inv.run_too.hits;
      };
      width = inv.width;
      rows_few = inv.rows_few;
      latest = fits.latest;
      somewhere = subst (StandsSomewhere t) (sym taken) fits.somewhere;
      unlock = λ is. absurd (false≢true is);
      sixteen = inv.sixteen;
      slots_fit = inv.slots_fit;
    }

pub returns-clause-restored : goal.returns-clause-restored
returns-clause-restored c =
    let r = c.self.inside in
    let t = trigger_contents r.text in
    let inv = c.self.invariant in
    let slot = c.in-Some.kept.now in
    let table = c.put_back.new.self in
    let here : slice_index_or r.slots.items c.args.slot None ≡ Some slot = ap (λ ss. slice_index_or
    ss c.args.slot None) (sym c.as_slice.ensures.value) ∙ sym c.in-Some.ensures in
    let counts : HaveCounts (counts_of t) r.table r.run.trigger = counts_kept t r.table
    r.run.trigger (rows_from r.rows.behind r.latest) inv.run_too.hits inv.somewhere in
    let taken = taken_up t r.table table r.run.trigger c.put_back-2.new.self r.rows.behind slot
    c.deref.result.now c.deref-2.result.now counts c.put_back.ensures c.deref.ensures.value
    c.deref-2.ensures.value c.put_back-2.ensures in
    let marked = c.put_back.ensures.marked ∙ ap (λ n. replicate n true)
    (length-words_at c.deref.result.now 0 (length r.table.cells) ∙ counts.cells) in
    let new : RecordingSeen = record (recording_seen r) {
      size = table.size;
      kept = kept_by table c.put_back-2.new.self (rows_from r.rows.behind slot.latest);
      unlocked = false;
      marked = table.marked;
      places = table.places;
    } in
    subst (λ (old : RecordingSeen). TakesUp old new c.args.slot) c.self.view_is
    (λ kept holds.
    let is = taken ∙ slot_is t r.rows.behind r.slots.items c.args.slot slot kept here holds in
    (λ i. record (recording_seen r) {
      size = c.put_back.ensures.pool.1 i;
      kept = is i;
      unlocked = false;
      marked = marked i;
      places = c.put_back.ensures.places i;
    }))

pub returns-clause-current : goal.returns-clause-current
returns-clause-current c image =
    let r = c.self.inside in
    let over = c.self.invariant.over in
    let pool = c.put_back.ensures.pool.0 in
    current_agrees (trigger_contents r.text) c.put_back.new.self image
    (record { cells = ap cells_of pool ∙ over.cells; tracked = ap tracked_of pool ∙ over.tracked })
    (Agrees-marked c.put_back.new.self image _ c.put_back.ensures.marked)
