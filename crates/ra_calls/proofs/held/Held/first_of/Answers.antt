use Rattle.std.proofs.Common.{subst, sym}
use Rattle.ra_progress.specs.Spelling.{progress_bytes}
use Rattle.ra_meaning.specs.Order.{shape_of}
use Rattle.ra_runtime.specs.Courses.{CourseSeen}
use Rattle.ra_calls.specs.Answers.{IsSaveOf}
use Rattle.ra_calls.proofs.Fresh.{save_is}
use Rattle.ra_calls.proofs.Taken.{if_ok}
use Rattle.ra_calls.proofs.held.Held.first_of.Goals as goal

pub returns-clause-first : goal.returns-clause-first
returns-clause-first c = if_ok c.save.result _ (λ bytes. IsSaveOf c.args.course.now bytes.items) (λ
    bytes is. save_is c.args.course.now bytes.items is) (rw c.name.ensures at c.save.ensures.bytes)
