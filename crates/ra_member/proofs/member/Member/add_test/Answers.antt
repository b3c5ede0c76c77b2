use Rattle.std.proofs.Common.{refl}
use Rattle.ra_condition.specs.Contents.{trigger_contents}
use Rattle.ra_member.specs.declared.member.Member.{Member}
use Rattle.ra_member.proofs.Added.{test_added}
use Rattle.ra_member.proofs.member.Member.add_test.Goals as goal

pub returns : goal.returns
returns c = λ first tests is.
    let before = c.args.self.now in
    let after : Member = record { tests = c.push_alone.new.row; values = before.values } in
    test_added first c.args.pool.now c.new.new.pool before after (trigger_contents c.args.text.now)
    c.in_ok-run.run' c.in_ok-run.ensures c.in_ok-push_alone.ensures refl tests is
