use Rattle.std.proofs.Common.{◌≡◌, ◌<◌, rules, subst, Some}
use Rattle.std.specs.Fmt.{styled_digits_output, digits_output, DisplaysOnOk}
use Rattle.ra_trace.specs.Workload.{hex4}
use Rattle.ra_trace.proofs.HexDigits.{four_styled}
use Rattle.ra_trace.proofs.four_digits.FourDigitsDisplay.fmt.Goals as goal

pub returns-clause-writes : goal.returns-clause-writes
returns-clause-writes g c =
    let small : c.args.self.now.0 < 65536 = search rules in
    let styled : styled_digits_output c.in_radix.result c.laid_out.result
    ≡ Some (hex4 c.args.self.now.0) = rw c.laid_out.ensures
    (four_styled (digits_output c.in_radix.result) c.args.self.now.0 small c.in_radix.ensures) in
    subst (λ o. DisplaysOnOk g.W.Write.write_str_gives c.args.f.now c.write.result o
    c.write.new.self) styled c.write.ensures.writes
