use Rattle.std.proofs.Common.{◌∙◌, Some, slice_set, refl, ap}
use Rattle.std.proofs.lemmas.List.{length-set}
use Rattle.ra_condition.specs.Contents.{trigger_contents}
use Rattle.ra_why.proofs.KeptLemmas.{filled_slot, may_take_up}
use Rattle.ra_why.proofs.watcher.Watcher.save.Goals as goal

pub returns-clause-saved : goal.returns-clause-saved
returns-clause-saved c = record {
  kept = c.in_ok-kept.kept;
  is = c.in_ok-kept.ensures;
  rest = refl;
  slots = ap (λ n. slice_set c.args.self.now.slots.items n (Some c.in_ok-kept.kept)) c.from.ensures;
}

pub returns-clause-watches : goal.returns-clause-watches
returns-clause-watches c = λ most w.
    let old = c.args.self.now in
    let t = trigger_contents old.text in
    let kept = c.in_ok-kept.kept in
    record {
      few = w.few;
      over = w.over;
      run_too = w.run_too;
      size = w.size;
      somewhere = w.somewhere;
      account = w.account;
      room = w.room;
      sixteen = length-set old.slots.items c.from.result (Some kept) ∙ w.sixteen;
      slots = filled_slot t most old.slots.items c.from.result kept w.slots
          (may_take_up t old.table old.run.trigger old.account kept c.in_ok-kept.ensures w.run_too.hits w.somewhere most
          w.account);
    }
