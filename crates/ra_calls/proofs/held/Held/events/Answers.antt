use Rattle.std.proofs.Common.{ap, arith, length, length-append, subst}
use Rattle.std.proofs.lemmas.List.{length-map}
use Rattle.ra_runtime.specs.Courses.{CourseSeen}
use Rattle.ra_calls.specs.Most.{IsWithinMost}
use Rattle.ra_calls.specs.ToldEvents.{told_event}
use Rattle.ra_calls.proofs.held.Held.events.Goals as goal

pub returns-clause-most : goal.returns-clause-most
returns-clause-most c =
    let loop = c.loop-event in
    let told = ap length loop.invariant.told in
    let each = length-map loop.yielded told_event in
    let all = ap length loop.invariant.left in
    let parts = length-append loop.yielded loop.event-iterator in
    let few =
    subst (λ (course : CourseSeen). IsWithinMost (length course.events) course) c.self.view_is
    c.self.invariant.standing.few in
    omega (arith, told, each, all, parts, few)
