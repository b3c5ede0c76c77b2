use Rattle.std.proofs.Common.{◌≡◌, ◌∙◌, refl, sym, ap, subst, option_map, Some, None}
use Rattle.md5.specs.Md5.{md5}
use Rattle.ra_set.specs.Texts.{first_line}
use Rattle.ra_set.proofs.CutLemmas.{first-shorter, behind-or, text-more, text-last, next-named, last-named}
use Rattle.ra_set.proofs.CutLemmas.{last-unscripted, script-named, AddsName}
use Rattle.ra_set.proofs.names.names_of.Goals as goal

pub lines-smaller : goal.lines-smaller
lines-smaller c = first-shorter c.lines.left.now c.in-Some.others.now
    (sym c.first_line.ensures.rest ∙ ap (option_map (λ r. r.now)) c.in-Some.is)

pub lines-preserved : goal.lines-preserved
lines-preserved c =
    let rest : (first_line c.lines.left.now).rest ≡ Some c.in-Some.others.now = sym c.first_line.ensures.rest
    ∙ ap (option_map (λ r. r.now)) c.in-Some.is in
    let text = text-more (first_line c.lines.left.now) c.in-Some.others.now c.first_line.result.0.now
    c.text_of.result.now c.is_some.result rest c.first_line.ensures.line (c.is_some.ensures ∙ rw c.in-Some.is refl)
    c.text_of.ensures in
    next-named c.lines.items.items c.lines.left.now c.args.bytes.now c.lines.invariant (sym c.lines-test.ensures)
    c.in-Some.others.now rest c.add_name.new.names.items
    (subst (λ t. AddsName c.lines.items.items t c.add_name.new.names.items) text c.in_ok-add_name.ensures)

pub returns-in_default-clause-items : goal.returns-in_default-clause-items
returns-in_default-clause-items c =
    let rest : (first_line c.lines.left.now).rest ≡ None = sym c.first_line.ensures.rest
    ∙ ap (option_map (λ r. r.now)) c.in_default.is in
    let text = text-last (first_line c.lines.left.now) c.first_line.result.0.now c.text_of.result.now c.is_some.result
    rest c.first_line.ensures.line (c.is_some.ensures ∙ rw c.in_default.is refl) c.text_of.ensures in
    last-named c.lines.items.items c.lines.left.now c.args.bytes.now c.lines.invariant (sym c.lines-test.ensures) rest
    c.add_name.new.names.items
    (subst (λ t. AddsName c.lines.items.items t c.add_name.new.names.items) text c.in_ok-add_name.ensures)

pub returns-in_default-clause-script : goal.returns-in_default-clause-script
returns-in_default-clause-script c =
    let rest : (first_line c.lines.left.now).rest ≡ None = sym c.first_line.ensures.rest
    ∙ ap (option_map (λ r. r.now)) c.in_default.is in
    last-unscripted c.lines.items.items c.lines.left.now c.args.bytes.now c.lines.invariant (sym c.lines-test.ensures)
    rest

pub returns-clause-items : goal.returns-clause-items
returns-clause-items c =
    (script-named c.lines.items.items c.lines.left.now c.args.bytes.now c.lines.invariant (sym c.lines-test.ensures)).0

pub returns-clause-script : goal.returns-clause-script
returns-clause-script c =
    ap (λ d. Some d) (c.digest.ensures
    ∙ ap md5 (ap (λ t. t.now) c.unwrap_or.ensures
    ∙ behind-or c.first_line-2.result.1 _ (first_line c.lines.left.now).rest refl c.first_line-2.ensures.rest))
    ∙ (script-named c.lines.items.items c.lines.left.now c.args.bytes.now c.lines.invariant
    (sym c.lines-test.ensures)).1
