use Rattle.std.proofs.Common.{◌≡◌, ◌≤◌, ◌∷◌, [], None, Some, List, Option, length, slice_index_or, ap, sym, subst, ◌∙◌}
use Rattle.ra_condition.specs.Contents.{groups_of, trigger_contents}
use Rattle.ra_indirect.specs.declared.node.Node.{Node}
use Rattle.ra_indirect.specs.Pools.{cells_of, tracked_of}
use Rattle.ra_text.proofs.Rows.{length-words_at}
use Rattle.ra_trigger.specs.Steps.{TriggerKept}
use Rattle.ra_member.specs.Runs.{IsLaid}
use Rattle.ra_explain.specs.Recorders.{StandsFor, rows_behind}
use Rattle.ra_explain.proofs.SlotLemmas.{taken_up}
use Rattle.ra_why.specs.Frames.{frames_of}
use Rattle.ra_why.specs.Watching.{MayTakeUp, MayTakeUpSlot, slot_in}
use Rattle.ra_why.specs.declared.kept.Kept.{Kept}
use Rattle.ra_why.proofs.KeptLemmas.{counts_somewhere}
use Rattle.ra_why.proofs.watcher.Watcher.restore.Goals as goal

pub returns-clause-watches : goal.returns-clause-watches
returns-clause-watches c = λ most w.
    let old = c.args.self.now in
    let t = trigger_contents old.text in
    let kept = c.in-Some.kept.now in
    let here : slice_index_or old.slots.items c.args.slot None ≡ Some kept =
    ap (λ ss. slice_index_or ss c.args.slot None) (sym c.as_slice.ensures.value) ∙ sym c.in-Some.ensures in
    let may : MayTakeUp t most kept = subst (λ (o : Option Kept). MayTakeUpSlot t most o) here (w.slots c.args.slot) in
    let put = c.put_back.ensures in
    record {
      few = w.few;
      over = record {
        cells = ap cells_of put.pool.0 ∙ w.over.cells;
        tracked =
            ap tracked_of put.pool.0 ∙ w.over.tracked;
      };
      run_too = record {
        laid = subst (λ (ns : List Node). IsLaid ns (groups_of t) old.run.laid) (sym put.pool.0) w.run_too.laid;
        hits = ap (λ (k : TriggerKept). length k.hits) c.put_back-2.ensures
            ∙ length-words_at c.deref-2.result.now 0 (length old.run.trigger.hits) ∙ w.run_too.hits;
      };
      size = put.pool.1 ∙ w.size;
      somewhere = record {
        history = may.somewhere.history;
        stands = subst (λ k. StandsFor t k may.somewhere.history)
            (sym (taken_up t old.table c.put_back.new.self old.run.trigger c.put_back-2.new.self
            (rows_behind t may.somewhere.history ∷ []) (slot_in kept) c.deref.result.now c.deref-2.result.now
            (counts_somewhere t old.table old.run.trigger w.run_too.hits w.somewhere) put c.deref.ensures.value
            c.deref-2.ensures.value c.put_back-2.ensures)) may.somewhere.stands;
      };
      account = record {
        ready = c.in_ok-account.ensures.ready t may.account.ready;
        few =
            subst (λ n. n ≤ most) (sym c.in_ok-account.ensures.frames) may.account.few;
      };
      room = w.room;
      sixteen = w.sixteen;
      slots = w.slots;
    }

pub returns-clause-restored : goal.returns-clause-restored
returns-clause-restored c =
    let old = c.args.self.now in
    let t = trigger_contents old.text in
    let kept = c.in-Some.kept.now in
    let here : slice_index_or old.slots.items c.args.slot None ≡ Some kept =
    ap (λ ss. slice_index_or ss c.args.slot None) (sym c.as_slice.ensures.value) ∙ sym c.in-Some.ensures in (
      kept,
      (
        here,
        λ history stands. record {
          kept = subst (λ k. StandsFor t k history)
              (sym (taken_up t old.table c.put_back.new.self old.run.trigger c.put_back-2.new.self
              (rows_behind t history ∷ []) (slot_in kept) c.deref.result.now c.deref-2.result.now
              (counts_somewhere t old.table old.run.trigger c.requires.watches.watches.run_too.hits
              c.requires.watches.watches.somewhere) c.put_back.ensures c.deref.ensures.value c.deref-2.ensures.value
              c.put_back-2.ensures)) stands.kept_too;
          account_too = c.in_ok-account.ensures.same t (length old.memory) (frames_of t history) stands.account_too;
        },
      ),
    )
