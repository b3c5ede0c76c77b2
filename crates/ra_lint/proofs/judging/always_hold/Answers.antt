use Rattle.std.proofs.Common.{◌∙◌, map, ap}
use Rattle.std.proofs.lemmas.Simd.{map-map}
use Rattle.ra_condition.specs.Contents.{group_contents}
use Rattle.ra_condition.specs.Chains.{places}
use Rattle.ra_lint.specs.declared.verdict.Verdict.{Verdict}
use Rattle.ra_lint.specs.Judging.{verdict_at}
use Rattle.ra_lint.proofs.judging.always_hold.Goals as goal

pub returns : goal.returns
returns c =
    let cs = group_contents c.args.group.now in
    c.in_ok-always.ensures ∙ ap (map (λ (verdict : Verdict). verdict.always)) (c.deref.ensures.value
    ∙ c.in_ok-verdicts.ensures)
    ∙ map-map (λ (verdict : Verdict). verdict.always) (verdict_at cs) (places cs)
