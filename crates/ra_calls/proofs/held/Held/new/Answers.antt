use Rattle.std.proofs.Common.{sym}
use Rattle.ra_calls.proofs.Fresh.{has_digits, is_fresh}
use Rattle.ra_calls.proofs.StandLemmas.{begun_stands}
use Rattle.ra_calls.proofs.held.Held.new.Goals as goal

pub invariant_of-result : goal.invariant_of-result
invariant_of-result c =
    let first = c.in-Ok.ensures in
    let same = sym first.same in
    let read = c.in_ok-course.ensures in
    let course = c.first_of.new.course in
    let loaded = rw same at read.loaded in
    let spelled = rw same at read.spelled in
    let goals = rw same at read.goals in
    let fresh =
    is_fresh c.args.text.now _ c.args.size course c.in-Ok.first.items loaded.spelled spelled (rw same at read.named)
    loaded.begun (rw same at first.first) (rw same at first.short) in
    record {
      spelled = spelled;
      shape = fresh.shape;
      first = fresh.first_too;
      accepted = fresh.accepted;
      long = fresh.long;
      goals_too = goals;
      digits = has_digits course.set c.in_ok-course.goals.items goals spelled;
      standing = begun_stands _ c.args.size course spelled loaded.begun;
    }
