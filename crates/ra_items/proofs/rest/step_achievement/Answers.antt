use Rattle.std.proofs.Common.{◌≡◌, ℕ, zero, suc, ◌==◌, ◌<◌, not, Bool, true, List, [], ◌∷◌, length, slice_index}
use Rattle.std.proofs.Common.{slice_index_or, refl, sym, ◌∙◌, ap, arith}
use Rattle.std.proofs.lemmas.List.FromFn.{length-map-range_with_len}
use Rattle.ra_condition.specs.Contents.{TriggerContents, groups_of, trigger_contents, trigger_hits}
use Rattle.ra_group.specs.declared.form.Form.TheVariants.{InTrigger}
use Rattle.ra_schedule.specs.Counted.{all_keep_by, counted}
use Rattle.ra_schedule.specs.Groups.{groups_keep}
use Rattle.ra_schedule.proofs.MembersRest.For.{length-free}
use Rattle.ra_schedule.proofs.MembersRest.Kept.{free_test, tests_keep}
use Rattle.ra_items.proofs.rest.step_achievement.Goals as goal

pub judge_trigger-requires-clause-before : goal.judge_trigger-requires-clause-before
judge_trigger-requires-clause-before c =
    ap length (c.note_trigger-noted.ensures c.if-noted.true).hits ∙ c.requires.run.hits ∙ sym c.step.ensures.run.hits

pub judge_trigger-requires-clause-free : goal.judge_trigger-requires-clause-free
judge_trigger-requires-clause-free c =
    let t = trigger_contents c.args.text.now in
    ap length c.requires.room.is ∙ length-free InTrigger (groups_of t) ∙ sym c.step.ensures.run.hits

pub judge_trigger-requires-clause-counted : goal.judge_trigger-requires-clause-counted
judge_trigger-requires-clause-counted c =
    let t = trigger_contents c.args.text.now in
    c.requires.room.many ∙ length-free InTrigger (groups_of t) ∙ sym c.step.ensures.run.hits

length-counted : (before after : List ℕ) → length (counted before after) ≡ length after
length-counted before after =
    length-map-range_with_len (λ j. not (slice_index after j == slice_index before j)) 0 (length after)

pub returns-then-noted-clause-room : goal.returns-then-noted-clause-room
returns-then-noted-clause-room c =
    let t = trigger_contents c.args.text.now in
    let judged = c.judge_trigger.ensures in
    record {
      is = judged.free ∙ c.requires.room.is;
      many = ap length judged.bits ∙ length-counted _ _ ∙ c.step.ensures.run.hits
          ∙ sym (length-free InTrigger (groups_of t));
    }

-- one row passes
pass_one : (free : List Bool) (before after : List ℕ) → all_keep_by free before after ≡ true
    → (k : ℕ) → k < 1 → all_keep_by (slice_index_or (free ∷ []) k [])
    (slice_index_or (before ∷ []) k []) (slice_index_or (after ∷ []) k []) ≡ true
pass_one free before after keep zero below = keep
pass_one free before after keep (suc k) below = absurd (omega (arith, below))

-- a trigger whose hits stayed, or are free and one more
keeps : (t : TriggerContents) (before after : List ℕ) → length after ≡ trigger_hits t → all_keep_by
    (free_test t) before after ≡ true → groups_keep InTrigger (groups_of t) before after ≡ true
keeps t before after long keep =
    (tests_keep (t ∷ []) (free_test t ∷ []) (before ∷ []) (after ∷ []) refl refl
    (ap (λ n. n ∷ []) long) (pass_one (free_test t) before after keep)).0

pub returns-then-noted-clause-rests : goal.returns-then-noted-clause-rests
returns-then-noted-clause-rests c = λ rested.
    let t = trigger_contents c.args.text.now in
    let holds = c.note_trigger-noted.ensures c.if-noted.true in
    let judged = c.judge_trigger.ensures in
    let after = c.step.new.self.run.trigger.hits in
    record {
      bits = judged.bits ∙ ap (λ h. counted h after) holds.hits;
      small = holds.small;
      rests = record {
        state = judged.state rested ∙ holds.state;
        measured = judged.measured rested ∙ holds.measured;
        hits = keeps t c.args.run.now.run.trigger.hits after c.step.ensures.run.hits
            (sym (λ i. all_keep_by (c.requires.room.is i) (holds.hits i) after) ∙ judged.keeps rested);
      };
    }
