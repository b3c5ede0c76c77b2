use Rattle.std.proofs.Common.{◌≡◌, ◌≤◌, ◌+◌, length}
use Rattle.ra_explain.specs.HitChanges.{events_of}
use Rattle.ra_session.specs.Explaining.{conditions_text}
use Rattle.ra_explain_job.proofs.PrintLemmas.{LeavesRest}
use Rattle.ra_explain_job.proofs.printing.print_conditions.Given as goal

-- the lines of the conditions that are left are not yet written
abbrev pub invariant-loop-own : goal.invariant-loop-own
invariant-loop-own g l = record {
  written : LeavesRest (g.K.Sink.text l.fn.out) (g.K.Sink.text l.out) (conditions_text l.group 0
      (events_of l.conditions)) (conditions_text l.group l.place (events_of l.rest));
  count : l.place + length l.rest ≡ length l.conditions;
  later : g.K.Sink.faults l.fn.out ≤ g.K.Sink.faults l.out;
}

abbrev pub decreases-loop-own : goal.decreases-loop-own
decreases-loop-own g l = length l.rest
