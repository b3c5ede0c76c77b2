use Rattle.std.proofs.Common.{◌∙◌, sym}
use Rattle.ra_memref.specs.Marks.{marks_after}
use Rattle.ra_set.specs.Contents.{set_contents}
use Rattle.ra_runtime.proofs.CurrentLemmas.{agrees_current, current_agrees}
use Rattle.ra_runtime.proofs.MarkedLemmas.{marked_over, marked_course, marked_rest}
use Rattle.ra_runtime.proofs.course.Course.tell.Goals as goal

pub invariant_of-self : goal.invariant_of-self
invariant_of-self c = marked_course c.self.inside c.self.invariant c.write.new.self c.write.ensures.rest

pub returns : goal.returns
returns c =
    let t = c.self.inside in
    let set = set_contents t.set in
    let is = c.self.invariant in
    let told = c.write.ensures in
    let over = marked_over t is c.write.new.self told.rest in
    rw (← c.self.view_is) (record {
      rest = marked_rest t is c.write.new.self told.rest;
      marked = told.marked ∙ (λ i. marks_after (is.size i)
          (is.over.cells i) t.table.places c.args.at c.args.count t.table.marked);
      current = λ image image' long differ current. current_agrees set c.write.new.self image' over
          (told.agrees image image' (long ∙ sym is.size) differ (agrees_current set t.table image is.over current));
    })
