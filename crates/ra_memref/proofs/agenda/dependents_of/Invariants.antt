use Rattle.ra_memref.proofs.AgendaLemmas.{AreNaming}
use Rattle.ra_memref.proofs.agenda.dependents_of.Given as goal

abbrev pub invariant-loop-number : goal.invariant-loop-number
invariant-loop-number l = AreNaming l.nodes l.number l.entries.items
