use Rattle.std.proofs.Common.{ℕ, Option, None, Some, List, ap, subst, sym, ◌∙◌}
use Rattle.ra_set.specs.Contents.{ItemContents, set_contents}
use Rattle.ra_meaning.specs.declared.event.Event.{Event}
use Rattle.ra_runtime.specs.Courses.{CourseSeen}
use Rattle.ra_items.specs.declared.item_run.ItemRun.{ItemRun}
use Rattle.ra_items.specs.AllRuns.{HaveDigits, all_events}
use Rattle.ra_items.proofs.EventLemmas.{Have, events_have}
use Rattle.ra_runtime.specs.Seen.{events_where}
use Rattle.ra_runtime.proofs.course.Course.tell_lines.Goals as goal

-- the formats of events have digits; none where no frame came
where_have : (last : Option ℕ) (items : List ItemContents) (runs : List ItemRun) → HaveDigits items
    → Have (events_where last (all_events items runs))
where_have None items runs have = tt
where_have (Some frame) items runs have = events_have items runs have

pub put_events-requires : goal.put_events-requires
put_events-requires c =
    let t = c.self.inside in
    let seen = c.events.ensures ∙ sym (ap (λ (r : CourseSeen). r.events) c.self.view_is) in
    subst (λ (events : List Event). Have events) (sym seen)
    (where_have t.last (set_contents t.set).items t.runs.items c.self.invariant.digits)
