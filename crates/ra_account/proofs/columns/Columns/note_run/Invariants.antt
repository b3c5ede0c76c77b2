use Rattle.std.proofs.Common.{◌≡◌, ◌+◌, ◌-◌, ◌*◌, ◌≤◌, ◌++◌, Bool, List, replicate}
use Rattle.ra_account.specs.Marks.{IsSound, IsTimeline}
use Rattle.ra_account.proofs.columns.Columns.note_run.Given as goal

-- all but those that are left are noted
abbrev pub invariant-loop-left : goal.invariant-loop-left
invariant-loop-left l = record {
  sound : IsSound l.self;
  most : l.left ≤ l.frames;
  long : l.self.full * l.self.width + l.self.begun + l.left
      ≡ l.fn.self.full * l.fn.self.width + l.fn.self.begun + l.frames;
  noted : (earlier : List Bool) → IsTimeline earlier l.fn.self
      → IsTimeline (replicate (l.frames - l.left) l.now ++ earlier) l.self;
}

abbrev pub decreases-loop-left : goal.decreases-loop-left
decreases-loop-left l = l.left
