use Rattle.std.proofs.Common.{◌/◌}
use Rattle.ra_memref.proofs.Telling.{IsTelling}
use Rattle.ra_memref.proofs.watches.Watches.tell.Given as goal

abbrev pub invariant-loop-page : goal.invariant-loop-page
invariant-loop-page l = IsTelling l.initial.self-inside l.self-inside (l.at / 16) l.page
