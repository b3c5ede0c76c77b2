use Rattle.std.proofs.Common.{◌≡◌}
use Rattle.ra_condition.specs.Canonical.{value_text}
use Rattle.ra_condition.specs.Contents.{value_contents}
use Rattle.ra_condition.proofs.Spelling.{value-spelled}
use Rattle.ra_condition.proofs.print.print_value.Goals as goal

pub returns-clause-spelled : goal.returns-clause-spelled
returns-clause-spelled c =
    let same : c.into_bytes.result.items ≡ value_text (value_contents c.args.text.now) =
    cc (c.into_bytes.ensures.value, c.in_ok-write_value.ensures, c.new-canonical.ensures.bytes) in
    rw same (value-spelled (value_contents c.args.text.now) c.requires)
