use Rattle.std.proofs.Common.{◌∙◌}
use Rattle.ra_memref.specs.Marks.{marks_seen}
use Rattle.ra_set.specs.Contents.{set_contents}
use Rattle.ra_runtime.proofs.CurrentLemmas.{current_agrees}
use Rattle.ra_runtime.proofs.MarkedLemmas.{marked_over, marked_course, marked_rest}
use Rattle.ra_runtime.proofs.course.Course.look.Goals as goal

pub invariant_of-self : goal.invariant_of-self
invariant_of-self g c = marked_course c.self.inside c.self.invariant c.look.new.self c.look.ensures.looked.rest

pub returns-clause-looked : goal.returns-clause-looked
returns-clause-looked g c =
    let t = c.self.inside in
    let image = g.I.Image.bytes c.args.image.now in
    let looked = c.look.ensures.looked in
    rw (← c.self.view_is) (record {
      rest = marked_rest t c.self.invariant c.look.new.self looked.rest;
      marked = looked.marked ∙ (λ i. marks_seen image
          (c.self.invariant.over.cells i) t.table.places t.table.cells t.table.marked);
      current = current_agrees (set_contents t.set) c.look.new.self image
          (marked_over t c.self.invariant c.look.new.self looked.rest) looked.agrees;
    })
