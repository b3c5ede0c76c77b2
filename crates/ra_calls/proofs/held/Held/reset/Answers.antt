use Rattle.std.proofs.Common.{refl, subst, sym}
use Rattle.ra_runtime.specs.Courses.{CourseSeen}
use Rattle.ra_calls.specs.Answers.{BeginsAgain, IsFirst}
use Rattle.ra_calls.proofs.StandLemmas.{first_opens, on_ok, restored_stands}
use Rattle.ra_calls.proofs.Taken.{begins_again, set_stays, still_held}
use Rattle.ra_calls.proofs.held.Held.reset.Goals as goal

pub invariant_of-self : goal.invariant_of-self
invariant_of-self c =
    let restore = c.restore.ensures in
    let old = c.self.inside.course in
    let new = c.restore.new.self in
    let held = c.self.invariant in
    let first = subst (IsFirst old.set) (sym c.as_slice.ensures.value) held.first in
    let opens = first_opens old.set c.as_slice.result.now first held.spelled held.shape in
    still_held c.self.inside _ held (set_stays c.restore.result old new _ restore.ok restore.err) refl refl
    (restored_stands c.restore.result old new c.as_slice.result.now (on_ok c.restore.result _ _ (λ _. opens) restore.ok)
    restore.ok restore.err held.standing)

pub returns : goal.returns
returns c =
    let restore = c.restore.ensures in
    let held = c.self.invariant in
    let begins =
    begins_again c.restore.result c.self.inside.course c.restore.new.self _ _ c.as_slice.ensures.value held.first
    restore.ok restore.size restore.refused held.accepted in
    subst (λ (old : CourseSeen). BeginsAgain old c.restore.new.self) c.self.view_is begins
