use Rattle.std.proofs.Common.{◌≡◌, length, take, sym, ◌∙◌, ap, arith}
use Rattle.std.specs.List.{flat_map}
use Rattle.std.proofs.lemmas.List.{take_all}
use Rattle.std.proofs.lemmas.List.Folds.{flat_map-map}
use Rattle.ra_member.specs.declared.member.Member.{Member}
use Rattle.ra_member.specs.MemberRuns.{kept_by}
use Rattle.ra_meaning.specs.Presence.{line_numbers}
use Rattle.ra_display.proofs.shown.numbers_of.Goals as goal

pub returns : goal.returns
returns c =
    let lines = c.args.run.now.lines.items in
    let k = c.loop-line.line-index in
    let all : take k lines ≡ lines = take_all k lines (omega (arith, ap length c.deref-line-items.ensures.value)) in
    c.loop-line.invariant ∙ ap (flat_map (λ (r : Member). line_numbers (kept_by r))) all
    ∙ sym (flat_map-map line_numbers kept_by lines)
