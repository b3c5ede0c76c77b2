use Rattle.std.proofs.Common.{Result, Ok, Err, Some, ◌≡◌, ap, refl, subst, ◌∙◌}
use Rattle.std.specs.Result.{IfErr, IsOk, OnOk}
use Rattle.ra_progress.specs.Contents.{ShapeContents}
use Rattle.ra_progress.specs.Reading.{IsAccepted, refusal}
use Rattle.ra_meaning.specs.Order.{shape_of}
use Rattle.ra_runtime.specs.Courses.{CourseSeen}
use Rattle.ra_runtime.proofs.LazyNames.{course_made, named_course}
use Rattle.ra_runtime.proofs.course.Course.accepts.Goals as goal

-- what holds of an answer that is given holds where one is
when_ok : {A E P : Type 0} (answer : Result A E) → (IsOk answer → P) → OnOk answer P
when_ok (Ok _) holds = holds refl
when_ok (Err _) holds = tt

pub check-requires : goal.check-requires
check-requires c =
    let t = c.self.inside in
    (course_made t c.self.invariant c.make.new.self c.make.ensures).whole_now.usable

pub invariant_of-self : goal.invariant_of-self
invariant_of-self c =
    let t = c.self.inside in
    let is = c.self.invariant in
    named_course t is c.make.new.self (course_made t is c.make.new.self c.make.ensures)

pub returns-clause-accepted : goal.returns-clause-accepted
returns-clause-accepted c =
    let t = c.self.inside in
    let made = course_made t c.self.invariant c.make.new.self c.make.ensures in
    let shown = ap (λ (r : CourseSeen). shape_of r.set) c.self.view_is in
    subst (λ (s : ShapeContents). OnOk c.check.result (IsAccepted s c.args.bytes.now))
    (made.whole_now.same ∙ shown) (when_ok c.check.result c.check.ensures.ok.0)

pub returns-clause-refused : goal.returns-clause-refused
returns-clause-refused c =
    let t = c.self.inside in
    let made = course_made t c.self.invariant c.make.new.self c.make.ensures in
    let shown = ap (λ (r : CourseSeen). shape_of r.set) c.self.view_is in
    subst (λ (s : ShapeContents). IfErr c.check.result (λ why. refusal s c.args.bytes.now
    ≡ Some why)) (made.whole_now.same ∙ shown) c.check.ensures.err
