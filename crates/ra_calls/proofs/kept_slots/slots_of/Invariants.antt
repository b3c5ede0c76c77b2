use Rattle.std.proofs.Common.{◌≡◌, replicate}
use Rattle.std.specs.Prelude.{All}
use Rattle.ra_calls.specs.GameViews.{openings_of}
use Rattle.ra_calls.specs.Standing.{IsSlotOf}
use Rattle.ra_calls.proofs.kept_slots.slots_of.Given as goal

abbrev pub invariant-loop : goal.invariant-loop
invariant-loop l = record {
  present : openings_of l.slots.items ≡ replicate l.counter l.course.kept;
  of_set : All (IsSlotOf l.course.set) l.slots.items;
}
