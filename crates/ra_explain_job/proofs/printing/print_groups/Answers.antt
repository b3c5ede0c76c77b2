use Rattle.std.proofs.Common.{arith, ◌+◌, List, length, map, sum_by, take, drop, ◌∙◌, ap}
use Rattle.std.proofs.lemmas.List.{length-drop}
use Rattle.std.proofs.lemmas.List.Sums.{sum_by-cons}
use Rattle.ra_condition.specs.declared.group.Group.{Group}
use Rattle.ra_condition.specs.Contents.{group_contents, groups_of, trigger_contents}
use Rattle.ra_explain.specs.HitChanges.{events_of}
use Rattle.ra_session.specs.Explaining.{conditions_text, groups_text}
use Rattle.ra_explain_job.proofs.PrintLemmas.{leaves_less, leaves_cut, group_next}
use Rattle.ra_explain_job.proofs.printing.print_groups.Goals as goal

pub returns-in_err-print_conditions-2-clause-part : goal.returns-in_err-print_conditions-2-clause-part
returns-in_err-print_conditions-2-clause-part g c =
    let rest = c.loop-alt.rest.now in
    let own = c.split_at-in-Some.result.0.now in
    let behind = c.split_at-in-Some.result.1.now in
    let front = c.split_at-in-Some.ensures.front
    ∙ ap (λ n. take n rest) (c.len-in-Some.ensures ∙ c.in-Some.alt.now.conditions.ok.0) in
    let back = c.split_at-in-Some.ensures.back
    ∙ ap (λ n. drop n rest) (c.len-in-Some.ensures ∙ c.in-Some.alt.now.conditions.ok.0) in
    leaves_cut (g.K.Sink.text c.args.out.now) (g.K.Sink.text c.loop-alt.out)
    (g.K.Sink.text c.print_conditions-in-Some.new.out)
    (groups_text 0 (groups_of (trigger_contents c.args.text.now)) (events_of c.args.conditions.now))
    (conditions_text c.loop-alt.group 0 (events_of own)) (groups_text (c.loop-alt.group + 1)
    (map group_contents c.in-Some.later.now) (events_of behind)) _
    (group_next c.loop-alt.group c.in-Some.alt.now c.loop-alt.alts.now c.in-Some.later.now rest own
    behind c.in-Some.ensures.cases.0 front back) c.loop-alt.invariant.written
    c.in_err-print_conditions-2.ensures.part

pub loop-alt-preserved : goal.loop-alt-preserved
loop-alt-preserved g c =
    let rest = c.loop-alt.rest.now in
    let own = c.split_at-in-Some.result.0.now in
    let behind = c.split_at-in-Some.result.1.now in
    let front = c.split_at-in-Some.ensures.front
    ∙ ap (λ n. take n rest) (c.len-in-Some.ensures ∙ c.in-Some.alt.now.conditions.ok.0) in
    let back = c.split_at-in-Some.ensures.back
    ∙ ap (λ n. drop n rest) (c.len-in-Some.ensures ∙ c.in-Some.alt.now.conditions.ok.0) in
    let alts = ap (λ (gs : List Group). sum_by length (map group_contents gs)) c.in-Some.ensures.cases.0 in
    record {
      written =
          leaves_less (g.K.Sink.text c.args.out.now) (g.K.Sink.text c.loop-alt.out)
          (g.K.Sink.text c.print_conditions-in-Some.new.out) (groups_text 0
          (groups_of (trigger_contents c.args.text.now)) (events_of c.args.conditions.now))
          (conditions_text c.loop-alt.group 0 (events_of own)) (groups_text (c.loop-alt.group + 1)
          (map group_contents c.in-Some.later.now) (events_of behind)) _
          (group_next c.loop-alt.group c.in-Some.alt.now c.loop-alt.alts.now c.in-Some.later.now
          rest own behind c.in-Some.ensures.cases.0 front back) c.loop-alt.invariant.written
          c.in_ok-print_conditions-2.ensures.ok;
      many = omega (
        arith,
        ap length back,
        length-drop (length (group_contents c.in-Some.alt.now)) rest,
        c.loop-alt.invariant.many,
        alts,
        sum_by-cons length (group_contents c.in-Some.alt.now) (map group_contents c.in-Some.later.now),
      );
      count = omega (arith, c.loop-alt.invariant.count, c.in-Some.ensures.cases.1);
      later = omega (arith, c.loop-alt.invariant.later, c.print_conditions-in-Some.ensures.later);
    }
