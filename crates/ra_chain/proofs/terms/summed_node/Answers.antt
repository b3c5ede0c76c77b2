use Rattle.std.proofs.Common.{◌+◌, ◌*◌, arith, take}
use Rattle.ra_chain.specs.Terms.{terms_sum}
use Rattle.ra_chain.proofs.PlantLemmas.{kept_through}
use Rattle.ra_chain.proofs.SideLemmas.{sum_more}
use Rattle.ra_chain.proofs.TakeLemmas.{named_sum}
use Rattle.ra_chain.proofs.TermLemmas.{plants_term}
use Rattle.ra_chain.proofs.terms.summed_node.Goals as goal

pub added_node-requires-clause-sum : goal.added_node-requires-clause-sum
added_node-requires-clause-sum c =
    let e = c.in_ok-product.ensures in
    named_sum c.term_node.new.pool c.loop-term.sum _ e.kept.pool
    (sum_more c.loop-term.pool c.term_node.new.pool c.loop-term.sum _ e.kept.front c.loop-term.invariant.sum.spells)

pub loop-term-preserved : goal.loop-term-preserved
loop-term-preserved c =
    let k = c.loop-term.term-index in
    let e = c.in_ok-product.ensures in
    let f = c.in_ok-more.ensures in
    let before = c.loop-term.invariant in
    let sums = sum_more c.loop-term.pool c.term_node.new.pool c.loop-term.sum
    (terms_sum (take c.loop-term.term-index c.args.terms.now)) e.kept.front before.sum.spells in
    record {
      sum = plants_term c.args.pool.now c.loop-term.pool c.term_node.new.pool c.added_node.new.pool
          c.args.terms.now k _ c.loop-term-test.true c.loop-term.sum c.in_ok-product.product
          c.in_ok-more.more before.sum e.ok (f.ok _ _ sums e.ok.spells);
      kept = kept_through c.args.pool.now c.term_node.new.pool c.added_node.new.pool (12 * k + 7)
          (2 * k + 2) (2 * k + 2) 1 0 0 (12 * (k + 1)) (2 * (k + 1)) (2 * (k + 1)) (omega arith)
          (omega arith) (omega arith) (kept_through c.args.pool.now c.loop-term.pool
          c.term_node.new.pool (12 * k) (2 * k) (2 * k) 7 2 2 (12 * k + 7) (2 * k + 2) (2 * k + 2)
          (omega arith) (omega arith) (omega arith) before.kept e.kept) f.kept;
    }
