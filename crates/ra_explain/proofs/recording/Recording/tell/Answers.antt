use Rattle.std.proofs.Common.{◌∙◌}
use Rattle.ra_condition.specs.Contents.{trigger_contents}
use Rattle.ra_memref.specs.Marks.{marks_after}
use Rattle.ra_explain.proofs.CurrentLemmas.{agrees_current, current_agrees, marked_recording, marked_rest}
use Rattle.ra_explain.proofs.recording.Recording.tell.Goals as goal

pub invariant_of-self : goal.invariant_of-self
invariant_of-self c = marked_recording c.self.inside c.self.invariant c.write.new.self c.write.ensures.rest

pub returns : goal.returns
returns c =
    let r = c.self.inside in
    let t = trigger_contents r.text in
    let is = c.self.invariant in
    let told = c.write.ensures in
    let over = (marked_recording r is c.write.new.self told.rest).over in
    rw (← c.self.view_is) (record {
      rest = marked_rest r is c.write.new.self told.rest;
      marked = told.marked ∙ (λ i. marks_after r.table.size
          (is.over.cells i) r.table.places c.args.at c.args.count r.table.marked);
      current = λ image image' long differ current. current_agrees t c.write.new.self image' over
          (told.agrees image image' long differ (agrees_current t r.table image is.over current));
    })
