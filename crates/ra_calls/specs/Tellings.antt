-- What is told of a recorded achievement: docs/DEFINITIONS.md, "Calls from C" and "Explanations".
use Rattle.std.specs.Prelude.{◌≡◌, ℕ, true, false, Option, None, Some, List}
use Rattle.std.specs.declared.result.Result.{Result}
use Rattle.std.specs.declared.result.Result.TheVariants.{Ok, Err}
use Rattle.ra_explain.specs.Explains.{ExplanationContents}
use Rattle.ra_explain.specs.Recordings.{RecordingSeen, over}
use Rattle.ra_explain.specs.Unlocks.{ExplainsBehind}
use Rattle.ra_judge.specs.Giving.{Gives}
use Rattle.ra_judge.specs.Codes.{done, memory, nothing}
use Rattle.ra_calls.specs.ToldUnlocks.{all_hits, told_unlock}
use Rattle.ra_calls.specs.declared.recording.Told.{Told}
use Rattle.ra_calls.specs.declared.told_unlock.ToldHits.{ToldHits}
use Rattle.ra_calls.specs.declared.told_unlock.ToldUnlock.{ToldUnlock}

-- what is told is an explanation of each history for which the recording stands
pub record TellsBehind (r : RecordingSeen) (told : Told) : Type 0 where
  pub of : ExplanationContents
  pub explains : (image : List ℕ) → ExplainsBehind (over r image) of
  pub head : told.head ≡ told_unlock of
  pub hits : told.hits.items ≡ all_hits 0 of.events

-- something is told exactly where the last frame was an unlock
abbrev pub TellsLast : RecordingSeen → Option Told → Type 0
TellsLast r None = r.unlocked ≡ false
TellsLast r (Some told) = (r.unlocked ≡ true) × TellsBehind r told

-- the same of what is recorded
abbrev pub TellsRecorded : Option RecordingSeen → Option Told → Type 0
TellsRecorded None None = Unit {0}
TellsRecorded None (Some told) = ⊥
TellsRecorded (Some r) told = TellsLast r told

-- an explanation is given, its rows where its events have room
pub record GivesUnlock (told : Told) (before after : List ToldHits) (count : ℕ)
    (unlock : ToldUnlock) (code : ℕ) : Type 0 where
  pub given : Gives told.hits.items before after count code
  pub headed : code ≡ done → unlock ≡ told.head

-- what is told is given, and else it is said that there is nothing, or no memory
abbrev pub GivesTold : {E : Type 0} → Result (Option Told) E → (before after : List ToldHits)
    → (count : ℕ) → (unlock : ToldUnlock) → (code : ℕ) → Type 0
GivesTold (Ok (Some told)) before after count unlock code = GivesUnlock told before after count unlock code
GivesTold (Ok None) before after count unlock code = code ≡ nothing
GivesTold (Err why) before after count unlock code = code ≡ memory
