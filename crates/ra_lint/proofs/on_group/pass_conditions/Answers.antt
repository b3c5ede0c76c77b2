use Rattle.std.proofs.Common.{◌<◌, ◌||◌, length, ap, arith}
use Rattle.std.proofs.lemmas.List.{get_or_default}
use Rattle.ra_condition.specs.Contents.{no_condition}
use Rattle.ra_lint.proofs.PassingLemmas.{passed_more, verdict_there, verdicts_many}
use Rattle.ra_lint.proofs.on_group.pass_conditions.Goals as goal

pub bounds-verdicts-place : goal.bounds-verdicts-place
bounds-verdicts-place c = omega (arith, verdicts_many c.args.conditions.now c.args.verdicts.now c.requires.verdicts)

pub loop-place-preserved : goal.loop-place-preserved
loop-place-preserved c =
    let cs = c.args.conditions.now in
    let place = c.loop-place.place in
    let within : place < length cs = omega arith in
    let condition = get_or_default cs place _ no_condition within in
    let verdict = verdict_there cs c.args.verdicts.now place _ c.requires.verdicts within in
    passed_more c.args.spot cs c.args.found.now.items c.loop-place.found.items c.put_warnings.new.found.items place
    _ _ c.of-here.result c.loop-place.before c.seen_next-before.result c.loop-place.dead _
    condition verdict c.of-here.ensures c.loop-place.invariant c.in_ok-put_warnings.ensures c.seen_next-before.ensures
    (ap (λ b. c.loop-place.dead || b) c.is_lost-lost.ensures)
