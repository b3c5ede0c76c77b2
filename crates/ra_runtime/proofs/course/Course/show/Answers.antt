use Rattle.std.proofs.Common.{◌≡◌, ◌<◌, ◌^◌, ℕ, List, [], ◌∙◌, ap, arith, length}
use Rattle.std.proofs.lemmas.Result.{IfOk-weaker}
use Rattle.ra_set.specs.Contents.{set_contents}
use Rattle.ra_progress.specs.Contents.{Opening}
use Rattle.ra_meaning.specs.Openings.{start_of, frames_after}
use Rattle.ra_meaning.specs.Play.{shown, shown_by}
use Rattle.ra_meaning.specs.Runtime.{ShowsKept}
use Rattle.ra_runtime.specs.Seen.{course_seen}
use Rattle.ra_runtime.specs.Courses.{over}
use Rattle.ra_display.specs.Showing.{optional_text}
use Rattle.ra_runtime.proofs.ShowLemmas.{may_show, shows, shows_now}
use Rattle.ra_runtime.proofs.course.Course.show.Goals as goal

pub shown_line-requires : goal.shown_line-requires
shown_line-requires c =
    let inv = c.self.invariant in
    may_show c.self.inside.table.nodes
    (set_contents c.self.inside.set).script c.self.inside.presence inv.script inv.presence

pub returns-clause-shows : goal.returns-clause-shows
returns-clause-shows c =
    let inside = c.self.inside in
    let set = set_contents inside.set in
    let inv = c.self.invariant in
    rw (← c.self.view_is)
    (IfOk-weaker c.shown_line.result (λ text. text.items
    ≡ optional_text inside.count set.script inside.presence) (λ text. (image : List ℕ)
    → ShowsKept (over (course_seen inside) image) text.items)
    (λ text is image o history opening images kept.
    let start = start_of set o in
    let count : inside.count ≡ frames_after o.frames (length history) = ap (λ (k : Opening). k.frames) kept in
    is ∙ shows inside.table.nodes inside.table.values start inside.count history set.script
    inside.presence inside.line_rests o.presence inv.presence inv.lines opening.presence
    (ap (λ (k : Opening). k.presence) kept)
    ∙ ap (λ (n : ℕ). shown_by start n history set.script o.presence) count)
    c.shown_line.ensures)

pub returns-clause-now : goal.returns-clause-now
returns-clause-now c =
    let inside = c.self.inside in
    let set = set_contents inside.set in
    let inv = c.self.invariant in
    let kept : Opening = (course_seen inside).kept in
    let small : inside.count < 2 ^ 64 = omega arith in
    let count : inside.count ≡ frames_after inside.count 0 = omega (arith, small) in
    rw (← c.self.view_is)
    (IfOk-weaker c.shown_line.result (λ text. text.items ≡ optional_text inside.count set.script
    inside.presence) (λ text. text.items ≡ shown set kept [])
    (λ text is.
    is ∙ shows_now inside.table.nodes inside.table.values (start_of set kept) inside.count
    set.script inside.presence inside.line_rests inv.presence inv.lines
    ∙ ap (λ (n : ℕ). shown_by (start_of set kept) n [] set.script kept.presence) count)
    c.shown_line.ensures)
