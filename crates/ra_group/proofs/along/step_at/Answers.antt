use Rattle.std.proofs.Common.{◌≡◌, ◌+◌, ◌-◌, length, arith}
use Rattle.ra_condition.specs.Contents.{group_contents}
use Rattle.ra_group.proofs.along.step_at.Goals as goal

pub returns-clause-outcome : goal.returns-clause-outcome
returns-clause-outcome c =
    let start = c.args.place.start in
    let size : start + c.len.result - start ≡ length (group_contents c.args.group.now) =
    omega (arith, c.len.ensures, c.args.group.now.conditions.ok.0) in
    rw size at c.step.ensures.outcome
