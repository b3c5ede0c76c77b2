-- Explanations as C reads them: docs/DEFINITIONS.md, "Calls from C" and "Explanations".
use Rattle.std.specs.Prelude.{ℕ, ◌+◌, if◌then◌else◌, List, [], ◌∷◌, ◌++◌, map}
use Rattle.ra_explain.specs.Explains.{ExplanationContents}
use Rattle.ra_explain.specs.declared.explanation.Event.{Event}
use Rattle.ra_calls.specs.declared.told_unlock.ToldHits.{ToldHits}
use Rattle.ra_calls.specs.declared.told_unlock.ToldUnlock.{ToldUnlock}

-- an event of the condition at a place
abbrev pub told_hits : ℕ → Event → ToldHits
told_hits place e = record { condition = place; row = e.row; hits = e.hits }

-- the events of all conditions from a place on, one condition after the other
abbrev pub all_hits : ℕ → List (List Event) → List ToldHits
all_hits place [] = []
all_hits place (own ∷ rest) = map (told_hits place) own ++ all_hits (place + 1) rest

-- the rows of an explanation, and 1 where the achievement waited, else 0
abbrev pub told_unlock : ExplanationContents → ToldUnlock
told_unlock e = record { last = e.last; since = e.since; waited = if e.waited then 1 else 0 }
