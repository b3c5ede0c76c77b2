use Rattle.std.proofs.Common.{◌≤◌}
use Rattle.ra_condition.specs.Contents.{trigger_contents}
use Rattle.ra_explain.specs.Replays.{IsReplay}
use Rattle.ra_explain.specs.OrderedRows.{joined}
use Rattle.ra_explain.specs.Beginnings.{CountAlike, IsBeginning, replayed}
use Rattle.ra_explain.proofs.beginning.begun.Given as goal

-- the achievement after the rows so far, and where they begin
abbrev pub invariant-loop-row : goal.invariant-loop-row
invariant-loop-row l =
    let t = trigger_contents l.text in
    let rows = joined l.rows in
    record {
      upto : l.row ≤ l.last;
      replay : IsReplay t l.replay;
      kept : CountAlike l.replay.trigger (replayed t rows l.row);
      begins : IsBeginning t rows l.row l.beginning;
    }
