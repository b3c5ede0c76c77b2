use Rattle.std.proofs.Common.{◌≡◌, ◌∙◌, length, map, ap, arith}
use Rattle.std.specs.List.{range_with_len}
use Rattle.std.proofs.lemmas.List.{get_or_default}
use Rattle.ra_condition.specs.Contents.{no_condition}
use Rattle.ra_notices.specs.Notices.{is_twice}
use Rattle.ra_notices.proofs.KeyLemmas.{noted_more}
use Rattle.ra_notices.proofs.PassLemmas.{marks_of}
use Rattle.ra_notices.proofs.twice.twice_in.Goals as goal

pub loop-condition-preserved : goal.loop-condition-preserved
loop-condition-preserved c =
    let cs = c.args.conditions.now in
    let place = c.loop-condition.condition-index in
    let condition = get_or_default cs place _ no_condition (omega arith) in
    noted_more cs place _ c.loop-condition.twice.items c.push.new.self.items c.loop-condition.seen c.note.new.seen
    c.loop-condition.chained c.combines-chained.result c.is_lone.result c.in_ok-again.again
    condition c.loop-condition.invariant c.is_lone.ensures
    c.in_ok-again.ensures.again c.in_ok-again.ensures.noted c.in_ok-push.ensures.items c.combines-chained.ensures

pub returns : goal.returns
returns c =
    let cs = c.args.conditions.now in
    let all : c.loop-condition.condition-index ≡ length cs = omega arith in
    marks_of (is_twice cs) cs c.loop-condition.twice.items (c.loop-condition.invariant.told
    ∙ ap (λ n. map (is_twice cs) (range_with_len 0 n)) all)
