use Rattle.std.proofs.Common.{◌≡◌, ◌∙◌, ap, sym, length, ℕ, [], arith}
use Rattle.ra_meaning.specs.Openings.{start_of, frames_after}
use Rattle.ra_meaning.specs.Play.{shown_by}
use Rattle.ra_progress.specs.Contents.{Opening}
use Rattle.ra_calls.specs.Shows.{IsShownBy, head_of, text_in}
use Rattle.ra_calls.proofs.ShownTexts.{shown_cut}
use Rattle.ra_calls.proofs.Taken.{if_ok}
use Rattle.ra_calls.proofs.showing.presence_of.Goals as goal

pub returns : goal.returns
returns c =
    let course = c.args.course.now in
    let head = c.in_ok-head.head.items in
    let long : c.len.result ≡ length head = omega (arith, c.len.ensures, c.in_ok-head.head.ok.0) in
    if_ok c.text_in.result (λ text. text.items ≡ text_in c.len.result c.deref.result.now)
    (λ text. IsShownBy course text.items)
    (λ text is o history opening images stands.
    let start = start_of course.set o in
    let count : course.kept.frames ≡ frames_after o.frames (length history) = ap (λ (k : Opening). k.frames) stands in
    is ∙ ap (λ (n : ℕ). text_in n c.deref.result.now) long ∙ ap (text_in (length head))
    (c.deref.ensures.value ∙ c.in_ok-line.ensures.shows [] o history opening images stands
    ∙ ap (λ (n : ℕ). shown_by start n history course.set.script o.presence) (sym count))
    ∙ shown_cut course.kept.frames head start history course.set.script o.presence
    (c.in_ok-head.ensures ∙ ap head_of c.frames.ensures))
    c.text_in.ensures
