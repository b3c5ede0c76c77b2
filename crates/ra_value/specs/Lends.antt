-- What a value keeps once its hits were changed in place: docs/INTERNALS.md, "Rest".
use Rattle.std.specs.Prelude.{ℕ, List, length}
use Rattle.std.specs.List.{refill}
use Rattle.std.specs.Borrow.{Lends, Fml, MutBor, Array, u32}
use Rattle.ra_value.specs.contracts.value.Value.{the_row}
use Rattle.ra_value.specs.Steps.{ValueKept}

-- what is kept of a value, with these hits in place of its own, as many as it has
abbrev pub with_hits : ValueKept → List ℕ → ValueKept
with_hits kept hits = record kept { hits = refill (length kept.hits) kept.hits hits }

-- once the hits are given back, the value has those that were written last, and nothing else has changed
abbrev pub LendsHits : MutBor ValueKept → MutBor (List ℕ) → Fml
LendsHits value hits = Lends the_row (Array u32 0) value hits (with_hits value.now)
