-- The unlock of an achievement among the events of a frame: docs/DEFINITIONS.md, "Events" and "Explanations".
use Rattle.std.specs.Prelude.{◌≡◌, ℕ, ◌==◌, ◌||◌, Bool, true, false, if◌then◌else◌, Some, List, [], ◌∷◌}
use Rattle.std.specs.List.{IsDistinct}
use Rattle.ra_condition.specs.Contents.{TriggerContents}
use Rattle.ra_memory.specs.Image.{History}
use Rattle.ra_set.specs.Accepted.{repeats}
use Rattle.ra_set.specs.Contents.{ItemContents, Unlocks, Ranks, SetContents}
use Rattle.ra_meaning.specs.Earned.{Earned}
use Rattle.ra_meaning.specs.Openings.{plain_opening}
use Rattle.ra_meaning.specs.Play.{events}
use Rattle.ra_meaning.specs.declared.event.Event.{Event}
use Rattle.ra_meaning.specs.declared.event.Event.TheVariants.{Unlock}
use Rattle.ra_explain.specs.Recorders.{unlocks_at}
use Rattle.ra_goals.specs.Choosing.{trigger_of}

-- whether an event is the unlock of this achievement
abbrev pub is_unlock : (id : ℕ) → Event → Bool
is_unlock id (Unlock other) = other == id
is_unlock id _ = false

-- whether the unlock of this achievement is among the events
abbrev pub tells_unlock : (id : ℕ) → List Event → Bool
tells_unlock id [] = false
tells_unlock id (event ∷ events) = is_unlock id event || tells_unlock id events

-- whether the achievement of an id is earned; one of which nothing is known counts as earned
abbrev pub earned_of : (id : ℕ) → List ItemContents → Earned → Bool
earned_of id (Unlocks other t ∷ items) (earned ∷ more) = if other == id then earned else earned_of id items more
earned_of id (Ranks other format b ∷ items) (earned ∷ more) = earned_of id items more
earned_of id _ _ = true

-- from the plain opening on, the unlock of an achievement that was not earned before is told at a frame exactly where
-- it
-- unlocks there by itself
abbrev pub UnlocksAreTold : SetContents → Type 0
UnlocksAreTold set =
    (id : ℕ) (t : TriggerContents) (image : List ℕ) (earlier : History) (earned : Earned)
    → IsDistinct repeats set.items → trigger_of id set.items ≡ Some t
    → earned_of id set.items earned ≡ false
    → tells_unlock id (events set (plain_opening set) (image ∷ earlier) earned) ≡ unlocks_at t image earlier
