use Rattle.std.proofs.Common.{arith, ◌+◌}
use Rattle.ra_explain.specs.HitChanges.{events_of}
use Rattle.ra_session.specs.Explaining.{condition_line, conditions_text}
use Rattle.ra_explain_job.proofs.PrintLemmas.{leaves_less, leaves_cut, condition_first}
use Rattle.ra_explain_job.proofs.printing.print_conditions.Goals as goal

pub returns-in_err-print_condition-clause-part : goal.returns-in_err-print_condition-clause-part
returns-in_err-print_condition-clause-part g c =
    leaves_cut (g.K.Sink.text c.args.out.now) (g.K.Sink.text c.loop-own.out)
    (g.K.Sink.text c.print_condition.new.out) (conditions_text c.args.group 0 (events_of
    c.args.conditions.now)) (condition_line c.args.group c.loop-own.place c.in-Some.own.now.events)
    (conditions_text c.args.group (c.loop-own.place + 1) (events_of c.in-Some.later.now)) _
    (condition_first c.args.group c.loop-own.place c.in-Some.own.now c.loop-own.rest.now
    c.in-Some.later.now c.in-Some.ensures.cases.0) c.loop-own.invariant.written
    c.in_err-print_condition.ensures.part

pub loop-own-preserved : goal.loop-own-preserved
loop-own-preserved g c = record {
  written =
      leaves_less (g.K.Sink.text c.args.out.now) (g.K.Sink.text c.loop-own.out) (g.K.Sink.text
      c.print_condition.new.out) (conditions_text c.args.group 0 (events_of c.args.conditions.now))
      (condition_line c.args.group c.loop-own.place c.in-Some.own.now.events)
      (conditions_text c.args.group (c.loop-own.place + 1) (events_of c.in-Some.later.now)) _
      (condition_first c.args.group c.loop-own.place c.in-Some.own.now c.loop-own.rest.now
      c.in-Some.later.now c.in-Some.ensures.cases.0) c.loop-own.invariant.written
      c.in_ok-print_condition.ensures.ok;
  count = omega (arith, c.loop-own.invariant.count, c.in-Some.ensures.cases.1);
  later = omega (arith, c.loop-own.invariant.later, c.print_condition.ensures.later);
}
