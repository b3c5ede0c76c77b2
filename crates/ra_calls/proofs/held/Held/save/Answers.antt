use Rattle.std.proofs.Common.{length, ◌≡◌, subst}
use Rattle.std.specs.Prelude.{IfOk}
use Rattle.ra_meaning.specs.Order.{shape_of}
use Rattle.ra_progress.specs.Layout.{length_of}
use Rattle.ra_runtime.specs.Courses.{CourseSeen}
use Rattle.ra_calls.specs.Answers.{IsSaveOf}
use Rattle.ra_calls.proofs.Fresh.{long_save, save_is}
use Rattle.ra_calls.proofs.Taken.{if_ok}
use Rattle.ra_calls.proofs.held.Held.save.Goals as goal

pub returns-clause-saved : goal.returns-clause-saved
returns-clause-saved c =
    let saved = if_ok c.save.result _ (λ bytes. IsSaveOf c.self.inside.course bytes.items)
    (λ bytes is. save_is c.self.inside.course bytes.items is) c.save.ensures.bytes in
    subst (λ (r : CourseSeen). IfOk c.save.result (λ bytes. IsSaveOf r bytes.items)) c.self.view_is saved

pub returns-clause-long : goal.returns-clause-long
returns-clause-long c =
    let long =
    long_save (λ bytes. bytes.items) c.self.inside.course c.save.result c.self.invariant.shape c.save.ensures.bytes
    c.save.ensures.opening in
    subst (λ (r : CourseSeen). IfOk c.save.result (λ bytes. length bytes.items ≡ length_of (shape_of r.set)))
    c.self.view_is long
