-- What a game is seen as, by its fields.
use Rattle.std.specs.Prelude.{◌≡◌, ◌≤◌, ◌^◌, IfSome, All, List, map}
use Rattle.ra_set.specs.Accepted.{IsSet}
use Rattle.ra_progress.specs.Contents.{Opening}
use Rattle.ra_runtime.specs.Keeping.{KeptSeen}
use Rattle.ra_calls.specs.Games.{GameSeen}
use Rattle.ra_calls.specs.Standing.{IsSlotOf}
use Rattle.ra_calls.specs.declared.game.Game.TheInside.{Inside}

-- the openings of kept states
abbrev pub openings_of : List KeptSeen → List Opening
openings_of slots = map (λ kept. kept.opening) slots

-- what a caller sees: the course, the recording where there is one, and the openings in the slots
abbrev pub game_seen : Inside → GameSeen
game_seen t = record { course = t.held; recording = t.recording; slots = openings_of t.slots.items }

-- The text spells the set, what is recorded is over memories of the same size, and what is kept is of the set and has
-- stood.
pub record IsGame (t : Inside) : Type 0 where
  pub spelled : IsSet t.text.items t.held.set
  pub small : t.held.size ≤ 2 ^ 27
  pub alike : IfSome t.recording (λ r. r.size ≡ t.held.size)
  pub kept : All (IsSlotOf t.held.set) t.slots.items
