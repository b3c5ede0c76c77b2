use Rattle.std.proofs.Common.{◌*◌, take}
use Rattle.ra_chain.specs.Planting.{IsKept}
use Rattle.ra_chain.specs.Terms.{terms_sum, PlantsTerms}
use Rattle.ra_chain.proofs.terms.summed_node.Given as goal

abbrev pub invariant-loop-term : goal.invariant-loop-term
invariant-loop-term l = record {
  sum : PlantsTerms l.initial.pool l.pool (terms_sum (take l.term-index l.terms)) l.sum;
  kept : IsKept l.initial.pool l.pool (12 * l.term-index) (2 * l.term-index) (2 * l.term-index);
}
