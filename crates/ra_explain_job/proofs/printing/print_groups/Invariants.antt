use Rattle.std.proofs.Common.{◌≡◌, ◌≤◌, ◌+◌, length, map, sum_by}
use Rattle.ra_condition.specs.Contents.{group_contents, groups_of, trigger_contents}
use Rattle.ra_explain.specs.HitChanges.{events_of}
use Rattle.ra_session.specs.Explaining.{groups_text}
use Rattle.ra_explain_job.proofs.PrintLemmas.{LeavesRest}
use Rattle.ra_explain_job.proofs.printing.print_groups.Given as goal

-- the lines of the groups that are left are not yet written
abbrev pub invariant-loop-alt : goal.invariant-loop-alt
invariant-loop-alt g l = record {
  written : LeavesRest (g.K.Sink.text l.fn.out) (g.K.Sink.text l.out)
      (groups_text 0 (groups_of (trigger_contents l.text)) (events_of l.conditions))
      (groups_text l.group (map group_contents l.alts) (events_of l.rest));
  many : length l.rest ≡ sum_by length (map group_contents l.alts);
  count : l.group + length l.alts ≡ 1 + length l.text.alts.items;
  later : g.K.Sink.faults l.fn.out ≤ g.K.Sink.faults l.out;
}

abbrev pub decreases-loop-alt : goal.decreases-loop-alt
decreases-loop-alt g l = length l.alts
