use Rattle.std.proofs.Common.{subst}
use Rattle.std.proofs.lemmas.Result.{err_from_is_err_and}
use Rattle.ra_richpresence.specs.Reading.{sections_at}
use Rattle.ra_richpresence.specs.Following.{bytes_of}
use Rattle.ra_richpresence.specs.Sections.{IsSectionOf, head_contents}
use Rattle.ra_richpresence.proofs.Turns.{sections-start, sections-turn, sections-smaller, fault-keeps}
use Rattle.ra_richpresence.proofs.sections.take_sections.Goals as goal

pub loop-lines-init : goal.loop-lines-init
loop-lines-init c = λ most before keeps. sections-start most before c.args.kept.now
    (bytes_of c.args.lines.now.rest.now) keeps

pub loop-lines-smaller : goal.loop-lines-smaller
loop-lines-smaller c = sections-smaller (head_contents c.in-Ok.head) c.loop-lines.lines.rest.now
    c.take_section.new.lines.rest.now c.in_ok-section.ensures.value c.in-len1-up.len_at_least
    c.in_ok-section.ensures.read

pub loop-lines-preserved : goal.loop-lines-preserved
loop-lines-preserved c = λ most before keeps. sections-turn most before c.loop-lines.kept
    c.add.new.self c.line-item.result c.loop-lines.lines.rest.now c.take_section.new.lines.rest.now
    _ (head_contents c.in-Ok.head) c.in_ok-section.section c.in_ok-section.ensures
    c.in-len1-up.len_at_least c.line-item.is c.in-Ok.ensures c.in_ok-add.ensures
    (c.loop-lines.invariant most before keeps)

pub returns-in_err-add : goal.returns-in_err-add
returns-in_err-add c = λ most before keeps. let p =
    err_from_is_err_and c.from_residual-in_err-add.result c.from_residual-in_err-add.ensures.1 in
    let l = c.loop-lines.invariant most before keeps in
    rw (p.1, p.2) (fault-keeps most before c.in_err-add.field-0.0 _ c.add.new.self
    c.take_section.new.lines.rest.now (sections_at (bytes_of c.args.lines.now.rest.now))
    (c.in_err-add.ensures most _ c.in_ok-section.ensures.value l.keeps (subst (λ n. IsSectionOf n
    c.in_ok-section.ensures.value c.in_ok-section.section) l.keeps.limit
    c.in_ok-section.ensures.is)))
