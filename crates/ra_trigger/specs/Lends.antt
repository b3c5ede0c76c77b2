-- What a trigger keeps once its hits were changed in place: docs/INTERNALS.md, "Rest".
use Rattle.std.specs.Prelude.{ℕ, List, length}
use Rattle.std.specs.List.{refill}
use Rattle.std.specs.Borrow.{Lends, Fml, MutBor, Array, u32}
use Rattle.ra_trigger.specs.contracts.trigger.Trigger.{the_row}
use Rattle.ra_trigger.specs.Steps.{TriggerKept}

-- what is kept of a trigger, with these hits in place of its own, as many as it has
abbrev pub with_hits : TriggerKept → List ℕ → TriggerKept
with_hits kept hits = record kept { hits = refill (length kept.hits) kept.hits hits }

-- once the hits are given back, the trigger has those that were written last, and nothing else has changed
abbrev pub LendsHits : MutBor TriggerKept → MutBor (List ℕ) → Fml
LendsHits trigger hits = Lends the_row (Array u32 0) trigger hits (with_hits trigger.now)
