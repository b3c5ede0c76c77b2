use Rattle.std.proofs.Common.{◌≡◌, ◌≤◌, ◌+◌, ◌-◌}
use Rattle.ra_condition.specs.Contents.{trigger_contents}
use Rattle.ra_explain.specs.OrderedRows.{joined}
use Rattle.ra_explain.specs.Replays.{IsReplay, AllGoOn, hits_through}
use Rattle.ra_explain.proofs.ConditionLemmas.{conditions_at}
use Rattle.ra_explain.proofs.tracing.trace.Given as goal

-- the rows so far go on, and their hits and events are known
abbrev pub invariant-loop-row : goal.invariant-loop-row
invariant-loop-row l =
    let t = trigger_contents l.text in
    let rows = joined l.rows in
    record {
      from : l.since ≤ l.row;
      upto : l.row ≤ l.last + 1;
      replay : IsReplay t l.replay;
      good : AllGoOn t rows l.since l.last l.row;
      hits : l.replay.trigger.hits ≡ hits_through t rows l.since (l.row - l.since);
      changes : l.changes.items ≡ conditions_at t rows l.since l.row;
    }
