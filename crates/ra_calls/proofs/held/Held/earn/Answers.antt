use Rattle.std.proofs.Common.{refl, ap}
use Rattle.ra_runtime.specs.Courses.{CourseSeen}
use Rattle.ra_calls.proofs.StandLemmas.{earned_stands}
use Rattle.ra_calls.proofs.Taken.{still_held}
use Rattle.ra_calls.proofs.held.Held.earn.Goals as goal

pub invariant_of-self : goal.invariant_of-self
invariant_of-self c =
    still_held c.self.inside _ c.self.invariant (ap (λ (r : CourseSeen). r.set) c.earn.ensures.rest) refl refl
    (earned_stands c.self.inside.course c.earn.new.self _ c.earn.ensures c.self.invariant.standing)
