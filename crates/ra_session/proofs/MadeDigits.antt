-- Four hexadecimal digits of a workload are the address that canonical text writes.
use Rattle.std.proofs.Common.{◌≡◌, ℕ, ◌<◌}
use Rattle.ra_operand.specs.Canonical.{address_text}
use Rattle.ra_trace.specs.Workload.{hex4}
use Rattle.ra_trace.proofs.HexDigits.{with_zeros}

-- an address of 16 bits in four digits
pub four_address : (n : ℕ) → n < 65536 → address_text n ≡ hex4 n
four_address n small = with_zeros n small
