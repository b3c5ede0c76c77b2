-- What a player keeps at a moment of a trace: docs/DEFINITIONS.md, "Save slots".
use Rattle.std.specs.Prelude.{◌≡◌, ℕ, ⊤, nat_le, Bool, true, false, Result, Ok, Err, Option, None, Some, List, [], ◌∷◌}
use Rattle.std.specs.Prelude.{length}
use Rattle.ra_io.specs.Sink.{grown}
use Rattle.ra_memory.specs.Image.{History, AreBytes, AreImages}
use Rattle.ra_progress.specs.Contents.{Opening, IsOpening}
use Rattle.ra_progress.specs.Laws.{IsShape}
use Rattle.ra_progress.specs.Spelling.{progress_bytes}
use Rattle.ra_set.specs.Contents.{SetContents}
use Rattle.ra_set.specs.Limits.{IsWithinLimits}
use Rattle.ra_set.specs.Names.{IsNamed}
use Rattle.ra_set.specs.Spelled.{IsSpelled}
use Rattle.ra_lint.specs.Fewness.{HasFewAlts}
use Rattle.ra_trace.specs.Entries.{Entry, Ended}
use Rattle.ra_trace.specs.Cutting.{Pieces, Reached, with_entry, stop_within}
use Rattle.ra_trace.specs.Reading.{ReaderSeen}
use Rattle.ra_meaning.specs.Runtime.{RuntimeSeen, TakesUp}
use Rattle.ra_meaning.specs.Order.{shape_of}
use Rattle.ra_meaning.specs.OpeningLaws.{HasDigests}
use Rattle.ra_meaning.specs.Earned.{Earned, HoldTriggered, IsEarnedToo, with_earned}
use Rattle.ra_meaning.specs.Openings.{snapshot}
use Rattle.ra_meaning.specs.Play.{Moment, moved, printed, pieces_from, earned_next}
use Rattle.ra_runtime.specs.Keeping.{KeptSeen, IsKeptFor}
use Rattle.ra_replay.specs.Left.{IsEmptySlot, IsLeft, trace_limit}
use Rattle.ra_session.specs.Endings.{ending_of}
use Rattle.ra_session.specs.Expected.{Expected}
use Rattle.ra_session.specs.Closing.{EndsBefore}
use Rattle.ra_session.specs.Failures.{ending_of_trace}
use Rattle.ra_session.specs.declared.failures.TraceFailed.{TraceFailed}

-- a set that a runtime can be made for: it is within the limits, some file spells it, and digests name it and its parts
pub record IsPlayable (set : SetContents) : Type 0 where
  pub limits : IsWithinLimits set
  pub spelled : IsSpelled set
  pub named : IsNamed set
  pub digests : HasDigests set
  pub alts : HasFewAlts set

-- The state is that of frames that were kept, with what was earned at their save and is earned still.
pub record IsSaveOf (set : SetContents) (o : Opening) (kept : History) (earned : Earned)
    (state : KeptSeen) : Type 0 where
  pub before : Earned
  pub images : AreImages kept
  pub holds : HoldTriggered before (snapshot set o kept).items
  pub still : IsEarnedToo before earned
  pub of_set : IsKeptFor (shape_of set) state
  pub is : state.opening ≡ with_earned (snapshot set o kept) before

-- a slot holds the state of the frames that it has kept, and nothing where it is empty
abbrev pub HoldsKept : SetContents → Opening → Earned → Option History → Option KeptSeen → Type 0
HoldsKept set o earned None None = Unit {0}
HoldsKept set o earned (Some kept) (Some state) = IsSaveOf set o kept earned state
HoldsKept set o earned _ _ = ⊥

-- each slot holds what it has kept
abbrev pub HoldEachKept : SetContents → Opening → Earned → List (Option History) → List (Option KeptSeen) → Type 0
HoldEachKept set o earned [] [] = Unit {0}
HoldEachKept set o earned (kept ∷ more) (state ∷ slots) =
    HoldsKept set o earned kept state × HoldEachKept set o earned more slots
HoldEachKept set o earned _ _ = ⊥

-- A runtime and the slots stand at a moment: the image is the moment's, and what is kept is what the frames so far
-- leave, with what is earned at the moment, which is all that is triggered and was earned at the save of a slot.
pub record StandsAt (set : SetContents) (o : Opening) (m : Moment) (earned : Earned)
    (runtime : RuntimeSeen) (slots : List (Option KeptSeen)) : Type 0 where
  pub same : runtime.set ≡ set
  pub playable : IsPlayable set
  pub shape : IsShape (shape_of set)
  pub opening : IsOpening (shape_of set) o
  pub image : runtime.image ≡ m.image
  pub bytes : AreBytes m.image
  pub behind : AreImages m.behind
  pub kept : runtime.kept ≡ with_earned (snapshot set o m.behind) earned
  pub holds : HoldTriggered earned (snapshot set o m.behind).items
  pub held : HoldEachKept set o earned m.slots slots

-- A runtime and the slots stand at some moment of a set and an opening, at which some achievements are earned.
pub record StandsSomewhere (runtime : RuntimeSeen) (slots : List (Option KeptSeen)) : Type 0 where
  pub set : SetContents
  pub opening : Opening
  pub moment : Moment
  pub earned : Earned
  pub stands : StandsAt set opening moment earned runtime slots

-- A player may play what a reader reads: the header told the size of its image, and it stands at some moment.
pub record MayPlay (reader : ReaderSeen) (runtime : RuntimeSeen) (slots : List (Option KeptSeen)) : Type 0 where
  pub size : reader.size ≡ Some (length runtime.image)
  pub stands : StandsSomewhere runtime slots

-- a runtime takes up progress bytes, and stays as it is where there are none
abbrev pub TakesUpFrom : Option (List ℕ) → RuntimeSeen → RuntimeSeen → Type 0
TakesUpFrom None old new = new ≡ old
TakesUpFrom (Some bytes) old new = TakesUp old new bytes

-- the progress bytes of what a runtime keeps
abbrev pub kept_bytes : RuntimeSeen → List ℕ
kept_bytes runtime = progress_bytes (shape_of runtime.set) runtime.kept

-- a slot holds the state that a runtime keeps
abbrev pub HoldsState : RuntimeSeen → Option KeptSeen → Type 0
HoldsState runtime None = ⊥
HoldsState runtime (Some state) = IsKeptFor (shape_of runtime.set) state × (state.opening ≡ runtime.kept)

-- A record takes the player to the moment after it, and prints what the set does there.
pub record Plays (set : SetContents) (o : Opening) (entry : Entry) (m : Moment) (earned : Earned)
    (runtime : RuntimeSeen) (slots : List (Option KeptSeen)) (text : List ℕ) : Type 0 where
  pub filled : IsEmptySlot entry m → ⊥
  pub stands : StandsAt set o (moved entry m) (earned_next set o entry (moved entry m) earned) runtime slots
  pub prints : text ≡ printed set o entry (moved entry m) earned

-- what a trace says from a moment on, at which this is earned, where these records are left of it
abbrev pub says_from : (bytes : List ℕ) → SetContents → Opening → Moment → Earned → Pieces → Expected
says_from bytes set o m earned left = record {
  pieces = pieces_from set o m earned left.entries;
  ending = ending_of (stop_within (nat_le trace_limit (length bytes)) left.stop);
  saved = [];
  puts_first = false;
}

-- One record of those that are left was played, and it was not the end.
pub record GoesOn (bytes : List ℕ) (set : SetContents) (o : Opening) (m : Moment) (earned : Earned)
    (left : Pieces) (reader : ReaderSeen) (runtime : RuntimeSeen) (slots : List (Option KeptSeen))
    (old new : Option (List ℕ)) : Type 0 where
  pub entry : Entry
  pub rest : Pieces
  pub first : left ≡ with_entry entry rest
  pub behind : IsLeft bytes (moved entry m) reader rest
  pub stands : StandsAt set o (moved entry m) (earned_next set o entry (moved entry m) earned) runtime slots
  pub text : new ≡ grown old (printed set o entry (moved entry m) earned)

-- The end record was played: nothing is left after it.
pub record IsAtEnd (set : SetContents) (o : Opening) (m : Moment) (earned : Earned) (left : Pieces)
    (runtime : RuntimeSeen) (slots : List (Option KeptSeen))
    (old new : Option (List ℕ)) : Type 0 where
  pub at : ℕ
  pub last : left ≡ record { entries = Ended ∷ []; stop = Reached at }
  pub stands : StandsAt set o m earned runtime slots
  pub text : new ≡ old

-- what reading and playing the next record does: it goes on, it was the end, or it stops as the trace says
abbrev pub TakesNext : (bytes : List ℕ) → SetContents → Opening → Moment → Earned → Pieces
    → ReaderSeen → RuntimeSeen → List (Option KeptSeen) → (old new : Option (List ℕ))
    → Result Bool TraceFailed → Type 0
TakesNext bytes set o m earned left reader runtime slots old new (Ok true) =
    IsAtEnd set o m earned left runtime slots old new
TakesNext bytes set o m earned left reader runtime slots old new (Ok false) =
    GoesOn bytes set o m earned left reader runtime slots old new
TakesNext bytes set o m earned left reader runtime slots old new (Err failed) =
    EndsBefore (says_from bytes set o m earned left) ⊤ ⊤ ⊤ (ending_of_trace failed) old new
