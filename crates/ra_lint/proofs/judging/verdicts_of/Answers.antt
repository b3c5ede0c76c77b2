use Rattle.std.proofs.Common.{◌≡◌, ◌∷◌, ◌++◌, [], eqb, get_or, sym, ap₂, ◌∙◌, arith}
use Rattle.std.proofs.lemmas.List.{get_or_default}
use Rattle.std.proofs.lemmas.List.FromFn.{map-range_with_len_more}
use Rattle.ra_condition.specs.Contents.{no_condition}
use Rattle.ra_lint.specs.Ranges.{any_number}
use Rattle.ra_lint.specs.Judging.{verdict_by, verdict_by_node}
use Rattle.ra_lint.proofs.judging.verdicts_of.Goals as goal

pub loop-place-preserved : goal.loop-place-preserved
loop-place-preserved c =
    let cs = c.args.conditions.now in
    let ranges = c.args.ranges.now in
    let place = c.loop-place.place in
    let l = get_or c.args.lefts.now place 0 in
    let r = get_or c.args.rights.now place 0 in
    let by_node = verdict_by_node cs ranges c.args.lefts.now c.args.rights.now in
    let within = c.requires.lefts_within place (omega (arith, c.requires.lefts)) in
    let within' = c.requires.rights_within place (omega (arith, c.requires.rights)) in
    let condition = get_or_default cs place _ no_condition (omega arith) in
    let first = get_or_default ranges l _ any_number within in
    let second = get_or_default ranges r _ any_number within' in
    let verdict : c.of-verdict.result ≡ by_node place =
    c.of-verdict.ensures ∙ (λ i. verdict_by (condition i).op (eqb l r) (first i) (second i)) in
    c.in_ok-push.ensures.items ∙ ap₂ (λ vs v. vs ++ v ∷ []) c.loop-place.invariant verdict
    ∙ sym (map-range_with_len_more by_node 0 place place (omega arith))
