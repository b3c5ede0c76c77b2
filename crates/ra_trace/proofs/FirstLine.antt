-- The first line of the workload of 0, computed from the definition.
use Rattle.std.proofs.Common.{◌≡◌, refl, codes}
use Rattle.std.specs.Fmt.{digits}
use Rattle.ra_trace.specs.Workload.{drawn, drawn_line, achievement_lines}

first_line : achievement_lines 1 1 0 ≡ codes "A 1 I:0x 3c6e_0xH4750>d0xH4750.2._R:0xHd1cc=255\n"
unfolding digits drawn drawn_line achievement_lines
first_line = refl
