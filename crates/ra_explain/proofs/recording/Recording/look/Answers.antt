use Rattle.std.proofs.Common.{◌∙◌}
use Rattle.ra_condition.specs.Contents.{trigger_contents}
use Rattle.ra_memref.specs.Marks.{marks_seen}
use Rattle.ra_explain.proofs.CurrentLemmas.{current_agrees, marked_recording, marked_rest}
use Rattle.ra_explain.proofs.recording.Recording.look.Goals as goal

pub invariant_of-self : goal.invariant_of-self
invariant_of-self g c = marked_recording c.self.inside c.self.invariant c.look.new.self c.look.ensures.looked.rest

pub returns-clause-looked : goal.returns-clause-looked
returns-clause-looked g c =
    let r = c.self.inside in
    let is = c.self.invariant in
    let image = g.I.Image.bytes c.args.image.now in
    let looked = c.look.ensures.looked in
    rw (← c.self.view_is) (record {
      rest = marked_rest r is c.look.new.self looked.rest;
      marked = looked.marked ∙ (λ i. marks_seen image (is.over.cells i) r.table.places r.table.cells r.table.marked);
      current = current_agrees (trigger_contents r.text) c.look.new.self image
          (marked_recording r is c.look.new.self looked.rest).over looked.agrees;
    })
