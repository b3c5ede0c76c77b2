use Rattle.std.proofs.Common.{◌≡◌}
use Rattle.ra_operand.specs.Canonical.{operand_text}
use Rattle.ra_operand.proofs.Printing.{operand-spelled}
use Rattle.ra_operand.proofs.print.print_operand.Goals as goal

pub returns-clause-spelled : goal.returns-clause-spelled
returns-clause-spelled c =
    let same : c.into_bytes.result.items ≡ operand_text c.args.operand.now =
    cc (c.into_bytes.ensures.value, c.in_ok-text.ensures.text) in
    rw same (operand-spelled c.args.operand.now c.text_of.ensures.number)
