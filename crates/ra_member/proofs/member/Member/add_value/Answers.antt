use Rattle.std.proofs.Common.{refl}
use Rattle.ra_condition.specs.Contents.{value_contents}
use Rattle.ra_member.specs.declared.member.Member.{Member}
use Rattle.ra_member.proofs.Added.{value_added}
use Rattle.ra_member.proofs.member.Member.add_value.Goals as goal

pub returns : goal.returns
returns c = λ first m is.
    let before = c.args.self.now in
    let after : Member = record { tests = before.tests; values = c.push_alone.new.row } in
    value_added first c.args.pool.now c.new.new.pool before after (value_contents c.args.text.now)
    c.in_ok-run.run' c.in_ok-run.ensures c.in_ok-push_alone.ensures refl m is
