use Rattle.std.proofs.Common.{rules, Some, ◌≡◌, ◌<◌, ◌+◌, ◌++◌, take, get_or, subst}
use Rattle.std.specs.Fmt.{styled_digits_output, digits_output, DisplaysOnOk}
use Rattle.std.proofs.Output.{has_written_append, has_written_of_eq}
use Rattle.ra_progress.specs.Refusals.{hex, hex_byte}
use Rattle.ra_progress.proofs.HexDigits.{two_styled, hex_more}
use Rattle.ra_progress.proofs.hex.HexDisplay.fmt.Goals as goal

pub loop-byte-preserved : goal.loop-byte-preserved
loop-byte-preserved g c = λ plain.
    let bytes = c.args.self.now.0.now in
    let at = c.loop-byte.byte-index in
    let byte = get_or bytes at 0 in
    let small : byte < 256 = search rules in
    let so_far = c.loop-byte.invariant plain in
    let styled : styled_digits_output c.in_radix.result c.laid_out.result ≡ Some (hex_byte byte) =
    rw c.laid_out.ensures (two_styled (digits_output c.in_radix.result) byte small c.in_radix.ensures) in
    let wrote = subst (λ o. DisplaysOnOk g.W.Write.write_str_gives c.loop-byte.f c.write.result o
    c.write.new.self) styled c.write.ensures.writes in
    let text : hex (take at bytes) ++ hex_byte byte ≡ hex (take (at + 1) bytes) = hex_more bytes at (search rules) in
    has_written_of_eq _ _ _ _ _ text (has_written_append _ _ _ _ _ _ so_far (wrote so_far.plain (search rules)))
