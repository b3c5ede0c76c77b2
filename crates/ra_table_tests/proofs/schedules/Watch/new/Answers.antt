use Rattle.std.proofs.Common.{true, ◌∙◌, ap, length, rules, sym, subst}
use Rattle.std.proofs.lemmas.Bool.{false≢true}
use Rattle.std.proofs.lemmas.List.{length-replicate}
use Rattle.ra_schedule.specs.Schedules.{IsHeard, ScheduleSeen}
use Rattle.ra_truths.specs.Comparisons.{AreOver}
use Rattle.ra_table_tests.proofs.schedules.Watch.new.Goals as goal

pub invariant_of-result : goal.invariant_of-result
invariant_of-result c =
    let fresh = c.in_ok-table.ensures in
    let signals = c.in_ok-signals.ensures in
    let table = c.in_ok-table.table in
    record {
      size = search rules;
      agrees = fresh.agrees c.in_ok-memory.memory (search rules);
      heard = subst (IsHeard table.nodes table.values) (sym c.in_ok-schedule.ensures) (record {
        nodes_too = ap length fresh.pool ∙ sym signals.nodes;
        over = subst (λ ns. AreOver ns c.in_ok-signals.signals.comparisons) (sym fresh.pool) signals.over;
        truths = λ known. absurd (false≢true known);
      });
      due = ap (λ (s : ScheduleSeen). length s.readers.due) c.in_ok-schedule.ensures
          ∙ length-replicate (length c.in_ok-signals.signals.readers.due) true ∙ signals.due;
    }
