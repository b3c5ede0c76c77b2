use Rattle.std.proofs.Common.{◌≡◌}
use Rattle.ra_condition.specs.Canonical.{trigger_text}
use Rattle.ra_condition.specs.Contents.{trigger_contents}
use Rattle.ra_condition.proofs.Spelling.{trigger-spelled}
use Rattle.ra_condition.proofs.print.print_trigger.Goals as goal

pub returns-clause-spelled : goal.returns-clause-spelled
returns-clause-spelled c =
    let same : c.into_bytes.result.items ≡ trigger_text (trigger_contents c.args.text.now) =
    cc (c.into_bytes.ensures.value, c.in_ok-write_trigger.ensures, c.new-canonical.ensures.bytes) in
    rw same (trigger-spelled (trigger_contents c.args.text.now) c.requires)
