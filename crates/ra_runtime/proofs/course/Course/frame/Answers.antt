use Rattle.std.proofs.Common.{◌≡◌, ◌∙◌, ◌≤◌, sym, subst, refl, length, map, List, rules, arith}
use Rattle.std.proofs.Math.Path.{transport}
use Rattle.std.proofs.lemmas.List.{with_items_is}
use Rattle.std.specs.Vec.{with_items}
use Rattle.ra_indirect.specs.declared.node.Node.{Node}
use Rattle.ra_set.specs.Contents.{item_contents, set_contents}
use Rattle.ra_items.specs.declared.item_run.ItemRun.{ItemRun}
use Rattle.ra_items.specs.AllRuns.{AreItemRuns}
use Rattle.ra_items.specs.Rests.{AreRests, AreTold, WereRests}
use Rattle.ra_runtime.specs.Seen.{course_seen}
use Rattle.ra_runtime.specs.Courses.{CourseSeen, over as whole, IsCurrent}
use Rattle.ra_runtime.proofs.CurrentLemmas.{agrees_current, current_agrees}
use Rattle.ra_runtime.proofs.CourseFrame.{course_frame, frame_over, frame_some, items_rested, lines_rested}
use Rattle.ra_runtime.proofs.FrameLemmas.{reads_few}
use Rattle.ra_runtime.proofs.course.Course.frame.Goals as goal

pub step-requires-clause-rests : goal.step-requires-clause-rests
step-requires-clause-rests g c =
    transport (λ i. WereRests c.sample.new.self (map item_contents (sym c.deref.ensures.value i))
    (sym c.deref_mut.ensures.value i) c.self.inside.rests)
    (items_rested c.self.invariant c.sample.ensures.taken c.sample.ensures.changed)

pub step-requires-clause-frame : goal.step-requires-clause-frame
step-requires-clause-frame g c = frame_some c.self.invariant c.sample.ensures.taken

pub step_presence-requires-clause-frame : goal.step_presence-requires-clause-frame
step_presence-requires-clause-frame g c = frame_some c.self.invariant c.sample.ensures.taken

pub step_presence-requires-clause-rests : goal.step_presence-requires-clause-rests
step_presence-requires-clause-rests g c =
    lines_rested c.self.invariant c.sample.ensures.taken c.sample.ensures.changed

pub invariant_of-self : goal.invariant_of-self
invariant_of-self g c =
    let t = c.self.inside in
    let items = (set_contents t.set).items in
    let now = c.sample.new.self in
    let news = c.step.new.runs in
    let inv = c.self.invariant in
    let taken = c.sample.ensures.taken in
    let same : (with_items t.runs news).items ≡ news =
    with_items_is t.runs news (c.step.auto.runs ∙ c.deref_mut.ensures.len) in
    let runs : AreItemRuns now.nodes items news = rw c.deref.ensures.value at c.step.ensures.runs in
    let rests : AreRests now.nodes now.values items news c.step.new.self = rw c.deref.ensures.value
    at c.step.ensures.rests in
    let told : AreTold items news c.step.new.self = rw c.deref.ensures.value at c.step.ensures.told in
    record {
      script = inv.script;
      limits = inv.limits;
      lazy = inv.lazy;
      names = subst (λ (ns : List Node). length ns ≤ t.shape.room) (sym taken.pool.0) inv.names;
      room = inv.room;
      over = frame_over inv taken;
      runs = subst (λ (rs : List ItemRun). AreItemRuns now.nodes items rs) (sym same) runs;
      rests = subst (λ (rs : List ItemRun). AreRests now.nodes now.values items rs c.step.new.self) (sym same) rests;
      told = λ came. subst (λ (rs : List ItemRun). AreTold items rs c.step.new.self) (sym same) told;
      presence = c.step_presence.ensures.run;
      lines = c.step_presence.ensures.rests;
      digits = inv.digits;
      size = taken.pool.1 ∙ inv.size;
      small = inv.small;
    }

pub returns-clause-taken : goal.returns-clause-taken
returns-clause-taken g c =
    let taken = c.sample.ensures.taken in
    let step = rw (c.deref.ensures.value, c.deref_mut.ensures.value) at c.step.ensures in
    rw (← c.self.view_is) (record {
      frame = course_frame c.self.invariant taken c.step.new.runs c.step.new.self c.step_presence.new.run
          c.step_presence.new.rests step.stepped c.step_presence.ensures.steps (omega arith)
          (c.step.auto.runs ∙ c.deref_mut.ensures.len) _ c.saturating_add-self-inside.ensures;
      current = current_agrees (set_contents c.self.inside.set) c.sample.new.self (g.I.Image.bytes c.args.image.now)
          (frame_over c.self.invariant taken) taken.agrees;
      size = refl;
    })

pub returns-clause-reads : goal.returns-clause-reads
returns-clause-reads g c =
    rw (← c.self.view_is) (reads_few (whole (course_seen c.self.inside) (g.I.Image.bytes c.args.image.now)) _
    c.self.inside.table c.sample.new.self _ c.self.invariant.over c.sample.ensures.taken
    (record { unmarked = c.sample.ensures.reads.unmarked; counted = search rules }) refl refl refl refl refl refl)

pub sample-requires-clause-agrees : goal.sample-requires-clause-agrees
sample-requires-clause-agrees g c =
    let image = g.I.Image.bytes c.args.image.now in
    agrees_current (set_contents c.self.inside.set) c.self.inside.table image c.self.invariant.over
    (subst (λ (s : CourseSeen). IsCurrent (whole s image)) (sym c.self.view_is) c.requires.current)
