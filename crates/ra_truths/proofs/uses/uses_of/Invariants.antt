use Rattle.ra_truths.proofs.UsesLemmas.{AreUsing}
use Rattle.ra_truths.proofs.uses.uses_of.Given as goal

abbrev pub invariant-loop-number : goal.invariant-loop-number
invariant-loop-number l = AreUsing l.comparisons l.nodes l.number l.entries.items
