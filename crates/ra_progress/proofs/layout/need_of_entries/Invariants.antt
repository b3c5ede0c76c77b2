use Rattle.std.proofs.Common.{◌≡◌, ◌+◌, ◌*◌, ◌≤◌, length}
use Rattle.ra_progress.specs.Layout.{need_from}
use Rattle.ra_progress.proofs.layout.need_of_entries.Given as goal

-- what is left to read, and where it stands
abbrev pub invariant-loop-left : goal.invariant-loop-left
invariant-loop-left l = record {
  rest : need_from l.bytes l.left l.at l.need ≡ need_from l.bytes l.count l.first (l.first + 20 * l.count + 16);
  place : l.at + 20 * l.left + 16 ≡ l.need;
  within : l.need ≤ length l.bytes;
}

abbrev pub decreases-loop-left : goal.decreases-loop-left
decreases-loop-left l = l.left
