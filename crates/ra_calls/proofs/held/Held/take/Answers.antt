use Rattle.std.proofs.Common.{refl, subst, sym}
use Rattle.ra_runtime.specs.Courses.{CourseSeen}
use Rattle.ra_calls.specs.Standing.{IsSlotOf}
use Rattle.ra_calls.proofs.StandLemmas.{kept_stands}
use Rattle.ra_calls.proofs.Taken.{still_held}
use Rattle.ra_calls.proofs.held.Held.take.Goals as goal

pub invariant_of-self : goal.invariant_of-self
invariant_of-self c =
    let takes = c.take_from.ensures in
    let kept = c.args.kept.now in
    let slot = subst (λ (course : CourseSeen). IsSlotOf course.set kept) (sym c.self.view_is) c.requires in
    still_held c.self.inside _ c.self.invariant takes.set refl refl
    (kept_stands c.self.inside.course c.take_from.new.course kept.opening slot.stood takes)
