use Rattle.std.proofs.Common.{◌≡◌, ◌+◌, ◌-◌, ◌++◌, Some, length, take, map}
use Rattle.ra_progress.specs.Layout.{entries_from, entries_in}
use Rattle.ra_progress.proofs.Walks.{IsWalk}
use Rattle.ra_progress.proofs.entry_places.places_beside.Given as goal

-- the places so far, and those that are left
abbrev pub invariant-loop-number : goal.invariant-loop-number
invariant-loop-number l = record {
  walk : IsWalk l.bytes (length l.places - l.number) l.at;
  rest : take l.number l.places ++ map (λ entry. Some (entry.at + 20)) (entries_from l.bytes
      (length l.places - l.number) l.at) ≡ map (λ entry. Some (entry.at + 20)) (entries_in l.bytes);
}
