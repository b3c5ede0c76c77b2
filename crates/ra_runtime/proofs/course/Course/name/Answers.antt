use Rattle.ra_runtime.proofs.LazyNames.{course_made, named_course}
use Rattle.ra_runtime.proofs.course.Course.name.Goals as goal

pub invariant_of-self : goal.invariant_of-self
invariant_of-self c =
    let t = c.self.inside in
    named_course t c.self.invariant c.make.new.self (course_made t c.self.invariant c.make.new.self c.make.ensures)
