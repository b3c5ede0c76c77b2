use Rattle.std.proofs.Common.{[], Option, None, length, slice_index_or, refl, sym, ap, subst, ◌∙◌, arith}
use Rattle.std.proofs.lemmas.List.{length-replicate}
use Rattle.ra_condition.specs.Contents.{trigger_contents}
use Rattle.ra_explain.proofs.MadeLemmas.{stands_first}
use Rattle.ra_why.specs.Watching.{MayTakeUpSlot}
use Rattle.ra_why.specs.declared.kept.Kept.{Kept}
use Rattle.ra_why.proofs.KeptLemmas.{none_in}
use Rattle.ra_why.proofs.watcher.Watcher.new.Goals as goal

pub returns-clause-made : goal.returns-clause-made
returns-clause-made c = record { trigger = refl; memory = c.in_ok-memory.ensures.memory; slots = c.in_ok-slots.ensures }

pub returns-clause-stands : goal.returns-clause-stands
returns-clause-stands c =
    let made = c.in_ok-memory in
    record {
      kept = stands_first (trigger_contents c.args.text) c.args.size made.table made.run' made.ensures.laid;
      account_too = made.ensures.account.begun (length made.memory);
    }

pub returns-clause-watches : goal.returns-clause-watches
returns-clause-watches c =
    let t = trigger_contents c.args.text in
    let made = c.in_ok-memory in
    let laid = made.ensures.laid in
    record {
      few = c.requires.few;
      over = laid.over;
      run_too = laid.run_too;
      size = laid.fresh.size_too ∙ sym (ap length made.ensures.memory ∙ length-replicate c.args.size 0);
      somewhere = record { history = []; stands = stands_first t c.args.size made.table made.run' laid };
      account = record { ready = made.ensures.account.ready; few = omega (arith, made.ensures.account.none) };
      room = made.ensures.room;
      sixteen = ap length c.in_ok-slots.ensures ∙ length-replicate {A = Option Kept} 16 None;
      slots = λ k. subst (λ (o : Option Kept). MayTakeUpSlot t 0 o)
          (sym (ap (λ items. slice_index_or items k None) c.in_ok-slots.ensures ∙ none_in {A = Kept} 16 k)) tt;
    }
