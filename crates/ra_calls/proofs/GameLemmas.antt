-- A recording that is begun, and an explanation that is given.
use Rattle.std.proofs.Common.{◌≡◌, ◌∙◌, inl, inr, sym, ap, subst, ℕ, ◌≤◌, ◌^◌, Bool, true, List}
use Rattle.std.proofs.Common.{Option, None, Some, option_map}
use Rattle.std.specs.Prelude.{All, IfOk, IfErr, IfSome, IsSomeAnd}
use Rattle.std.specs.declared.result.Result.{Result}
use Rattle.std.specs.declared.result.Result.TheVariants.{Ok, Err}
use Rattle.ra_condition.specs.Contents.{TriggerContents}
use Rattle.ra_runtime.specs.Courses.{CourseSeen}
use Rattle.ra_runtime.specs.Keeping.{KeptSeen}
use Rattle.ra_set.specs.Contents.{SetContents}
use Rattle.ra_explain.specs.Recordings.{RecordingSeen, IsBegun}
use Rattle.ra_calls.specs.Answers.{Calls}
use Rattle.ra_judge.specs.Giving.{Gives}
use Rattle.ra_calls.specs.Games.{GameSeen}
use Rattle.ra_set.specs.Accepted.{IsSet}
use Rattle.ra_calls.specs.GameViews.{IsGame}
use Rattle.ra_calls.specs.declared.game.Game.TheInside.{Inside}
use Rattle.ra_calls.specs.Handles.{recording_of}
use Rattle.ra_goals.specs.Choosing.{trigger_of}
use Rattle.ra_calls.specs.Standing.{IsSlotOf}
use Rattle.ra_calls.specs.Recordings.{AnswersExplain, ExplainsWhere, IsOfId}
use Rattle.ra_calls.specs.Tellings.{GivesTold, TellsRecorded}
use Rattle.ra_calls.specs.declared.recording.Told.{Told}
use Rattle.ra_calls.specs.declared.told_unlock.ToldHits.{ToldHits}
use Rattle.ra_calls.specs.declared.told_unlock.ToldUnlock.{ToldUnlock}

-- a new recording of the trigger of an id is one of this id
pub begun_of_id : (id : ℕ) (course : CourseSeen) (t : TriggerContents) (size : ℕ) (r : RecordingSeen)
    → trigger_of id course.set.items ≡ Some t → size ≡ course.size → IsBegun t size r → IsOfId id course (Some r)
begun_of_id id course t size r found same begun =
    let named : t ≡ r.trigger = sym begun.made.trigger in
    let sized = subst (λ n. IsBegun t n r) same begun in
    (found ∙ ap Some named, subst (λ (u : TriggerContents). IsBegun u course.size r) named sized)

-- what is told of a recording and given answers the call
pub explains_so : {E : Type 0} (recording : Option RecordingSeen) (told : Result (Option Told) E)
    (before after : List ToldHits) (count : ℕ) (unlock : ToldUnlock) (code : ℕ) → IfOk told (TellsRecorded recording)
    → IfErr told (λ why. IsSomeAnd recording (λ r. r.unlocked ≡ true))
    → GivesTold told before after count unlock code → AnswersExplain recording before after count unlock code
explains_so None (Ok None) before after count unlock code tells due gives = gives
explains_so None (Ok (Some told)) before after count unlock code tells due gives = absurd tells
explains_so None (Err why) before after count unlock code tells due gives = absurd due
explains_so (Some r) (Ok None) before after count unlock code tells due gives =
    subst (λ (b : Bool). ExplainsWhere b r before after count unlock code) (sym tells) gives
explains_so (Some r) (Ok (Some told)) before after count unlock code tells due gives =
    subst (λ (b : Bool). ExplainsWhere b r before after count unlock code) (sym tells.0) (inr (record {
      told = tells.1.of;
      explains = tells.1.explains;
      given = subst (λ (hits : List ToldHits). Gives hits before after count code) tells.1.hits gives.given;
      headed = λ done. gives.headed done ∙ tells.1.head;
    }))
explains_so (Some r) (Err why) before after count unlock code tells due gives =
    subst (λ (b : Bool). ExplainsWhere b r before after count unlock code) (sym due) (inl gives)

-- the course of what is held
abbrev course_in : Option GameSeen → Option CourseSeen
course_in game = option_map (λ (g : GameSeen). g.course) game

-- what holds of the recording of a full handle that stays answers the call
pub answers_full : (P : Option RecordingSeen → Type 0) (code : ℕ) (game : GameSeen) (old new : Option GameSeen)
    → Some game ≡ old → new ≡ Some game → P game.recording
    → Calls (λ _ _. P (recording_of old)) code (course_in old) (course_in new)
answers_full P code game old new taken put holds =
    subst (λ (o : Option GameSeen). Calls (λ _ _. P (recording_of o)) code (course_in o) (course_in new)) taken
    (subst (λ (n : Option GameSeen). Calls (λ _ _. P game.recording) code (Some game.course) (course_in n)) (sym put)
    holds)

-- kept states are for the set where it stays
pub still_kept : (set set' : SetContents) (slots slots' : List KeptSeen) → set ≡ set' → slots ≡ slots'
    → All (IsSlotOf set) slots → All (IsSlotOf set') slots'
still_kept set set' slots slots' same_set same_slots all =
    subst (λ (s : SetContents). All (IsSlotOf s) slots') same_set
    (subst (λ (ks : List KeptSeen). All (IsSlotOf set) ks) same_slots all)

-- a game goes on as one without a recording, where its set and its size stay
pub still_game : (old new : Inside) → IsGame old → new.held.set ≡ old.held.set → new.held.size ≡ old.held.size
    → new.text.items ≡ old.text.items → new.recording ≡ None → new.slots.items ≡ old.slots.items
    → IsGame new
still_game old new is set size text none slots = record {
  spelled =
      subst (λ (bytes : List ℕ). IsSet bytes new.held.set) (sym text)
      (subst (IsSet old.text.items) (sym set) is.spelled);
  small = subst (λ n. n ≤ 2 ^ 27) (sym size) is.small;
  alike = subst (λ (o : Option RecordingSeen). IfSome o (λ r. r.size ≡ new.held.size)) (sym none) tt;
  kept = still_kept old.held.set new.held.set old.slots.items new.slots.items (sym set) (sym slots) is.kept;
}
