use Rattle.std.proofs.Common.{◌<◌, ◌++◌, ◌∙◌, length, refl, ap, arith}
use Rattle.std.proofs.lemmas.List.{get_or_default}
use Rattle.ra_condition.specs.Contents.{no_condition}
use Rattle.ra_notices.specs.Noticing.{notices_by, standing_with}
use Rattle.ra_notices.proofs.PassLemmas.{passed_more}
use Rattle.ra_notices.proofs.groups.pass_conditions.Goals as goal

pub loop-place-preserved : goal.loop-place-preserved
loop-place-preserved c =
    let cs = c.args.conditions.now in
    let place = c.loop-place.place in
    let within : place < length cs = omega arith in
    let condition = get_or_default cs place _ no_condition within in
    let again = c.is_marked.ensures ∙ c.requires.twice place within in
    let lock = c.is_marked-in-loop-place.ensures ∙ c.requires.locks place within in
    passed_more c.args.spot cs c.args.found.now.items c.loop-place.found.items c.put_notices.new.found.items place
    _ _ _ _ c.loop-place.standing c.with-standing.result
    condition refl again lock c.loop-place.invariant (c.in_ok-put_notices.ensures ∙ ap
    (λ seen. c.loop-place.found.items ++ notices_by c.args.spot place seen) c.seen_of-seen.ensures)
    (c.with-standing.ensures ∙ ap (standing_with c.loop-place.standing) c.seen_of-seen.ensures)
