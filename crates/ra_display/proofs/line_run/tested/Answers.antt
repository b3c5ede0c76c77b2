use Rattle.std.proofs.Common.{[]}
use Rattle.ra_member.proofs.Added.{member_begins}
use Rattle.ra_display.proofs.line_run.tested.Goals as goal

pub returns-in_ok-add_test-in-Some : goal.returns-in_ok-add_test-in-Some
returns-in_ok-add_test-in-Some c =
    let pool = c.args.pool.now in
    let made = c.in_ok-add_test-in-Some.ensures pool [] (member_begins pool c.new-member.result
    c.len.ensures.pool c.new-member.ensures.tests c.new-member.ensures.values) in
    rw c.in-Some.is made

pub returns-in-None : goal.returns-in-None
returns-in-None c =
    let pool = c.args.pool.now in
    rw c.in-None.is (member_begins pool c.new-member.result c.len.ensures.pool
    c.new-member.ensures.tests c.new-member.ensures.values)
