use Rattle.std.proofs.Common.{ℕ, ◌∷◌, List, None, slice_index_or, refl, sym, subst, ◌∙◌, arith}
use Rattle.ra_condition.specs.Contents.{trigger_contents}
use Rattle.ra_indirect.specs.declared.node.Node.{Node}
use Rattle.ra_member.specs.Runs.{IsTriggerRun}
use Rattle.ra_explain.proofs.FrameLemmas.{frame_answers, frame_stands, over_after}
use Rattle.ra_explain.specs.Recorders.{rows_behind}
use Rattle.ra_account.specs.Triggers.{IsTriggerAccount, TriggerRow, row_with}
use Rattle.ra_why.specs.Frames.{frames_of}
use Rattle.ra_why.proofs.KeptLemmas.{more_frames}
use Rattle.ra_why.proofs.ReadLemmas.{shown_is}
use Rattle.ra_why.proofs.watcher.Watcher.frame.Goals as goal

pub take_frame-change-requires-clause-run : goal.take_frame-change-requires-clause-run
take_frame-change-requires-clause-run g c =
    subst (λ (ns : List Node). IsTriggerRun ns (trigger_contents c.args.self.now.text) c.args.self.now.run)
    (sym c.follow.ensures.taken.pool.0) c.requires.watches.watches.run_too

pub returns-clause-watches : goal.returns-clause-watches
returns-clause-watches g c = λ most w.
    let old = c.args.self.now in
    let t = trigger_contents old.text in
    let samples = c.follow.ensures.taken in
    record {
      few = w.few;
      over = over_after t old.table c.follow.new.self old.memory w.over samples;
      run_too = c.take_frame-change.ensures.run;
      size = samples.pool.1 ∙ w.size;
      somewhere =
          (let after = frame_stands t old.table c.follow.new.self old.memory old.run c.take_frame-change.new.run
          c.take_frame-change.result
          (rows_behind t w.somewhere.history) w.over samples c.take_frame-change.ensures.run
          c.take_frame-change.ensures.steps
          w.somewhere.history w.somewhere.stands in
          record {
            history = old.memory ∷ w.somewhere.history;
            stands =
                record { trigger = after.trigger; cells = after.cells; priors = after.priors; rows = refl };
          });
      account = record {
        ready = c.note_frame.ensures.ready;
        few =
            omega (arith, c.note_frame.ensures.counted, w.account.few);
      };
      room = c.take_frame-change.ensures.room;
      sixteen = w.sixteen;
      slots = λ k. more_frames t most (slice_index_or old.slots.items k None) (w.slots k);
    }

pub returns-clause-stands : goal.returns-clause-stands
returns-clause-stands g c = λ history stands.
    let old = c.args.self.now in
    let t = trigger_contents old.text in
    let samples = c.follow.ensures.taken in
    let after = frame_stands t old.table c.follow.new.self old.memory old.run c.take_frame-change.new.run
    c.take_frame-change.result
    (rows_behind t history) c.requires.watches.watches.over samples c.take_frame-change.ensures.run
    c.take_frame-change.ensures.steps history
    stands.kept in
    let waited = c.take_frame-change.ensures.waited in
    let read = c.take_frame-change.ensures.read in
    record {
      kept = record { trigger = after.trigger; cells = after.cells; priors = after.priors; rows = refl };
      account_too = subst (λ (n : ℕ). IsTriggerAccount t n
          (frames_of t (old.memory ∷ history)) c.note_frame.new.account) c.size-size.ensures.size
          (subst (λ (row : TriggerRow). IsTriggerAccount t c.size-size.result
          (row ∷ frames_of t history) c.note_frame.new.account)
          ((λ i. row_with t (waited i) (read i)) ∙ shown_is t old.table c.follow.new.self old.memory old.run.trigger
          c.requires.watches.watches.over samples
          history stands.kept old.run refl
          (subst (λ (ns : List Node). IsTriggerRun ns t old.run)
          (sym samples.pool.0) c.requires.watches.watches.run_too).laid)
          (c.note_frame.ensures.noted (frames_of t history)
          (subst (λ (n : ℕ). IsTriggerAccount t n (frames_of t history) old.account)
          (sym c.size-size.ensures.size) stands.account_too)));
    }

pub returns-clause-answers : goal.returns-clause-answers
returns-clause-answers g c = λ history stands.
    let old = c.args.self.now in
    let t = trigger_contents old.text in
    c.unlocks.ensures ∙ frame_answers t old.table c.follow.new.self old.memory old.run c.take_frame-change.new.run
    c.take_frame-change.result
    (rows_behind t history) c.requires.watches.watches.over c.follow.ensures.taken c.take_frame-change.ensures.run
    c.take_frame-change.ensures.steps history stands.kept
