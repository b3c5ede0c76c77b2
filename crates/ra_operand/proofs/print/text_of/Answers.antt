use Rattle.std.proofs.Common.{◌≡◌, ◌∙◌, Some, [], string_bytes}
use Rattle.std.specs.Fmt.{styled_digits_output, digits_output}
use Rattle.std.proofs.lemmas.Result.{IfOk-weaker}
use Rattle.ra_operand.specs.Canonical.{address_text}
use Rattle.ra_operand.proofs.Printing.{cell-text, styled-address}
use Rattle.ra_operand.proofs.print.text_of.Goals as goal

pub returns-in-Cell-clause-text : goal.returns-in-Cell-clause-text
returns-in-Cell-clause-text c =
    let styled : styled_digits_output c.in_radix.result c.laid_out.result
    ≡ Some (address_text c.in-Cell.address) = rw c.laid_out.ensures
    (styled-address (digits_output c.in_radix.result) c.in-Cell.address c.in_radix.ensures) in
    IfOk-weaker c.format.result _ _ (λ text h. cell-text []
    (string_bytes text) c.prefix.result.now c.letter.result.now _ c.in-Cell.address styled h
    ∙ rw (c.prefix.ensures, c.letter.ensures, c.in-Cell.is)) c.format.ensures.ok
