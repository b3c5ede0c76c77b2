-- What an emulator gets from its calls: docs/DEFINITIONS.md, "What a runtime keeps".
use Rattle.std.specs.Prelude.{◌≡◌, ℕ, List, ◌∷◌, length}
use Rattle.ra_memory.specs.Image.{History, AreImages, written}
use Rattle.ra_progress.specs.Contents.{Opening, IsOpening}
use Rattle.ra_progress.specs.Spelling.{progress_bytes}
use Rattle.ra_set.specs.Accepted.{IsSet}
use Rattle.ra_meaning.specs.Earned.{earned_in}
use Rattle.ra_meaning.specs.Order.{shape_of}
use Rattle.ra_meaning.specs.declared.event.Event.{Event}
use Rattle.ra_meaning.specs.Play.{events, lines, earns}
use Rattle.ra_meaning.specs.Runtime.{RuntimeSeen, IsMade, ShowsKept, StandsAfter}

-- the text spells a set, and this is its runtime before the first frame
pub record IsLoaded (text : List ℕ) (size : ℕ) (runtime : RuntimeSeen) : Type 0 where
  pub spelled : IsSet text runtime.set
  pub made : IsMade runtime.set size runtime

-- a frame over the image with these bytes written: what is kept, earned, told and printed goes on over each history so
-- far
pub record PlaysFrame (old new : RuntimeSeen) (at : ℕ) (bytes : List ℕ) : Type 0 where
  pub set : new.set ≡ old.set
  pub image : new.image ≡ written old.image at bytes
  pub size : length new.image ≡ length old.image
  pub kept : (o : Opening) (history : History) → IsOpening (shape_of old.set) o → AreImages history
      → StandsAfter old o history → StandsAfter new o (written old.image at bytes ∷ history)
  pub earned : (o : Opening) (history : History) → IsOpening (shape_of old.set) o
      → AreImages history → StandsAfter old o history → earned_in new.kept
      ≡ earns old.set o (written old.image at bytes ∷ history) (earned_in old.kept)
  pub happened : (o : Opening) (history : History) → IsOpening (shape_of old.set) o
      → AreImages history → StandsAfter old o history → new.events
      ≡ events old.set o (written old.image at bytes ∷ history) (earned_in old.kept)
  pub printed : (o : Opening) (history : History) → IsOpening (shape_of old.set) o
      → AreImages history → StandsAfter old o history → new.lines
      ≡ lines old.set o (written old.image at bytes ∷ history) (earned_in old.kept)

-- the events are the last ones, and the texts are the presence line and the progress file of what the runtime keeps
pub record TellsOf (runtime : RuntimeSeen) (last : List Event) (presence progress : List ℕ) : Type 0 where
  pub last_events : last ≡ runtime.events
  pub shown : ShowsKept runtime presence
  pub saved : progress ≡ progress_bytes (shape_of runtime.set) runtime.kept
